-- Document 02, card 6: "From a base table of 64 quantizers and a percent p from 1 to 200, each divisor is (base × p + 50) / 100 rounded
-- down, then held to 1..255."
use Rattle.std.specs.Prelude.{◌&&◌, List, [], ◌∷◌, ℕ, ◌+◌, ◌*◌, ◌/◌, min, max, leb, get_or}
use Rattle.lists.specs.Tab.{tab}
use Rattle.refusals.specs.Refusals.{Test, ◌unless◌, ◌of◌}

unfoldable pub percent_divisor : ℕ → ℕ → ℕ
percent_divisor base p = max 1 (min 255 ((base * p + 50) / 100))

unfoldable pub percent_table : List ℕ → ℕ → List ℕ
percent_table base p = tab 64 (λ n. percent_divisor (get_or base n 0) p)

-- "The divisors go to a lent output of 64 (else 3). Percent is checked after lengths. Turned away: 11, a percent outside 1 to 200." 2 is
-- document 01's number for a table not of 64
abbrev pub percent_tests : List ℕ → ℕ → List ℕ → List Test
percent_tests base p out = 2 unless base of 64 ∷ 3 unless out of 64 ∷ 11 unless (leb 1 p && leb p 200) ∷ []
