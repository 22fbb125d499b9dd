-- Document 01, "Added by design": what is printed for what standard input holds.
use Rattle.std.specs.Prelude.{Bool, true, false, cond, ◌&&◌, List, [], ◌∷◌, ℕ, eqb, length, take, drop, replicate}
use Rattle.forward.specs.Canonical.{coefficients}
use Rattle.coefficient_text.specs.Lines.{numbers}

-- "P5\n8 8\n255\n" in ASCII
unfoldable pub header : List ℕ
header = 80 ∷ 53 ∷ 10 ∷ 56 ∷ 32 ∷ 56 ∷ 10 ∷ 50 ∷ 53 ∷ 53 ∷ 10 ∷ []

-- two lists have the same bytes
unfoldable pub same : List ℕ → List ℕ → Bool
same [] [] = true
same [] (y ∷ ys) = false
same (x ∷ xs) [] = false
same (x ∷ xs) (y ∷ ys) = eqb x y && same xs ys

-- "exactly the 11 bytes `P5\n8 8\n255\n` and 64 samples"
unfoldable pub accepted : List ℕ → Bool
accepted input = eqb (length input) 75 && same (take 11 input) header

-- "refused 7\n" in ASCII
unfoldable pub refused_text : List ℕ
refused_text = 114 ∷ 101 ∷ 102 ∷ 117 ∷ 115 ∷ 101 ∷ 100 ∷ 32 ∷ 55 ∷ 10 ∷ []

-- "the canonical coefficients for quantizer 1: eight lines"; "other input, longer or shorter too, prints `refused 7`"
unfoldable pub text : List ℕ → List ℕ
text input = cond (accepted input) (numbers (coefficients (drop 11 input) (replicate 64 1)) 64) refused_text
