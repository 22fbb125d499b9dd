-- Document 01's example: "64 samples of 255 print 1016 0 0 0 0 0 0 0 and then seven lines 0 0 0 0 0 0 0 0".
-- Assumes nothing.
use mathlib.Core.Path.{◌≡◌, refl, ap, ◌∙◌}
use mathlib.Core.List.{List, [], ◌∷◌, ◌++◌}
use Prim.Native.Nat.{ℕ}
use lib.ListN.{replicate}
use lib.IntN.{ℤ}
use Rattle.lists.specs.Tab.{tab}
use Rattle.quantize.specs.Quantize.{divisor_of, rounded, with_sign, coefficient}
use Rattle.coefficient_text.specs.Lines.{digits, numeral, separator, numbers}
use Rattle.coefficient_text.specs.Text.{header, same, accepted, text}
use Rattle.known_table.proofs.Table.{equal, equal-coefficients}

-- " 0 0 0 0 0 0 0\n"
abbrev zeros : List ℕ
zeros = 32 ∷ 48 ∷ 32 ∷ 48 ∷ 32 ∷ 48 ∷ 32 ∷ 48 ∷ 32 ∷ 48 ∷ 32 ∷ 48 ∷ 32 ∷ 48 ∷ 10 ∷ []

-- "0 0 0 0 0 0 0 0\n"
abbrev line : List ℕ
line = 48 ∷ zeros

abbrev printed : List ℕ
printed = (49 ∷ 48 ∷ 49 ∷ 54 ∷ zeros) ++ (line ++ (line ++ (line ++ (line ++ (line ++ (line ++ line))))))

computed : numbers (equal 255 1) 64 ≡ printed
unfolding numbers numeral digits separator equal tab coefficient divisor_of rounded with_sign
computed = refl

pub white : text (header ++ replicate 64 255) ≡ printed
unfolding text accepted same header
white = ap (λ (cs : List ℤ). numbers cs 64) (equal-coefficients 255 1) ∙ computed
