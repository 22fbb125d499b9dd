-- Of the coefficients of a block, or of a plane: which are zero, and how many are not (document 02, cards 6 and 12).
use Rattle.std.specs.Prelude.{◌≡◌, cond, List, [], ◌∷◌, ℕ, ◌+◌, get_or, ℤ, pos}
use Rattle.integers.specs.Equal.{eq_z}

-- where cs has a zero, ds has one: no zero of cs turned into a nonzero
abbrev pub ZerosStay : List ℤ → List ℤ → Type 0
ZerosStay cs ds = (i : ℕ) → get_or cs i (pos 0) ≡ pos 0 → get_or ds i (pos 0) ≡ pos 0

-- "the number of nonzero coefficients"
unfoldable pub nonzeros : List ℤ → ℕ
nonzeros [] = 0
nonzeros (c ∷ cs) = cond (eq_z c (pos 0)) 0 1 + nonzeros cs
