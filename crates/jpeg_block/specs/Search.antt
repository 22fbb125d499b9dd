-- Fewest coefficients within an error, for C (crate fewest): what was found is three numbers in a lent place.
use Rattle.std.specs.Prelude.{List, [], ◌∷◌, ◌++◌, ℕ}
use Rattle.refusals.specs.Refusals.{Test, ◌unless◌, ◌of◌}
use Rattle.fewest.specs.Fewest.{Fewest, percent_of, search_tests}

-- the percent, or 0 for "none tried is good"; how far off it is at most; the number of trials
unfoldable pub fewest_numbers : Fewest → List ℕ
fewest_numbers f = percent_of f.found ∷ f.off ∷ f.trials ∷ []

-- the entry's tests; 3, a place not of three numbers
abbrev pub fewest_place_tests : List ℕ → ℕ → ℕ → List ℕ → List ℕ → List Test
fewest_place_tests samples w h base answer = search_tests samples w h base ++ 3 unless answer of 3 ∷ []
