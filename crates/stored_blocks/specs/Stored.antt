-- The screen (document 02, card 3) and the sameness (document 01, "Added by design") of blocks of 64 16-bit coefficients.
use Rattle.std.specs.Prelude.{Bool, false, List, [], ◌∷◌, ℕ, get_or, ℤ, pos}
use Rattle.integers.specs.Equal.{eq_z}
use Rattle.lists.specs.Below.{below}
use Rattle.refusals.specs.Refusals.{Test, ◌unless◌, ◌of◌}
use Rattle.refusals.specs.Numbers.{Answer, answer}
use Rattle.stored_blocks.specs.Screen.{passes}

-- yes when each of the 64 coefficients passes (document 02, card 3, in place of document 01's range). "This judges frequencies singly and
-- says nothing of whole blocks."
unfoldable pub screened : List ℤ → List ℕ → Bool
screened cs quant = below 64 (λ n. passes n (get_or quant n 0) (get_or cs n (pos 0)))

-- "Screen: 1, 2"; a refusal's answer is no
abbrev pub screen_tests : List ℤ → List ℕ → List Test
screen_tests cs quant = 1 unless cs of 64 ∷ 2 unless quant of 64 ∷ []

abbrev pub screen_answer : List ℤ → List ℕ → Answer Bool
screen_answer cs quant = answer (screen_tests cs quant) (screened cs quant) false

-- "Sameness of two blocks: all 64 coefficients equal"
unfoldable pub same_blocks : List ℤ → List ℤ → Bool
same_blocks a b = below 64 (λ n. eq_z (get_or a n (pos 0)) (get_or b n (pos 0)))

-- "Sameness: 1 for either block"
abbrev pub same_tests : List ℤ → List ℤ → List Test
same_tests a b = 1 unless a of 64 ∷ 1 unless b of 64 ∷ []

abbrev pub same_answer : List ℤ → List ℤ → Answer Bool
same_answer a b = answer (same_tests a b) (same_blocks a b) false
