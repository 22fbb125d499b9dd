-- The guarded quantizer's transform and scales as exact numbers: each constant is the binary64 number that its literal is, nothing else is
-- rounded but the product of the scales. The unit is 2^-54.
use Rattle.std.specs.Prelude.{List, [], ◌∷◌, ℕ, ◌/◌, ◌%◌, ◌^◌, get_or, ℤ, pos, neg_ℤ, ◌+ℤ◌, ◌-ℤ◌, Float}
use Rattle.std.specs.Float.{nan, binary64}
use Rattle.std.specs.Float.Ieee.{mul}
use Rattle.guarded_quantizer.specs.Literals.{decimal}
use Rattle.guarded_quantizer.specs.Divisors.{aan_scale}

abbrev pub one : ℕ
one = 2 ^ 54

-- the factors of `fdct_8`: FRAC_1_SQRT_2, 0.3826834323650898, 0.541196100146197 and 1.3065629648763766 (`rotation-is` and the following laws
-- of proofs/Pass.antt)
abbrev pub rotation_factor : ℕ
rotation_factor = 12738103345051546

abbrev pub cross_factor : ℕ
cross_factor = 6893811853601123

abbrev pub left_factor : ℕ
left_factor = 9749322219811114

abbrev pub right_factor : ℕ
right_factor = 23536945927013360

-- a row of a symmetric and of an antisymmetric output, by its first half
abbrev even_row : ℤ → ℤ → ℤ → ℤ → List ℤ
even_row a b c d = a ∷ b ∷ c ∷ d ∷ d ∷ c ∷ b ∷ a ∷ []

abbrev odd_row : ℤ → ℤ → ℤ → ℤ → List ℤ
odd_row a b c d = a ∷ b ∷ c ∷ d ∷ neg_ℤ d ∷ neg_ℤ c ∷ neg_ℤ b ∷ neg_ℤ a ∷ []

-- the matrix of `fdct_8`: row u gives output u (`pass` of proofs/Pass.antt)
unfoldable pub matrix : List (List ℤ)
matrix =
    let o = pos one in
    let m = pos rotation_factor in
    let c = pos cross_factor in
    let l = pos left_factor in
    let r = pos right_factor in
    even_row o o o o
    ∷ odd_row (o +ℤ r -ℤ c) (m +ℤ r -ℤ c) (m +ℤ c) c
    ∷ even_row (o +ℤ m) m (neg_ℤ m) (neg_ℤ o -ℤ m)
    ∷ odd_row (o +ℤ c) (c -ℤ m) (neg_ℤ m -ℤ l -ℤ c) (neg_ℤ l -ℤ c)
    ∷ even_row o (neg_ℤ o) (neg_ℤ o) o
    ∷ odd_row (o -ℤ c) (neg_ℤ m -ℤ c) (l +ℤ c -ℤ m) (l +ℤ c)
    ∷ even_row (o -ℤ m) (neg_ℤ m) m (m -ℤ o)
    ∷ odd_row (o -ℤ r +ℤ c) (m -ℤ r +ℤ c) (m -ℤ c) (neg_ℤ c)
    ∷ []

-- 8·AAN_SCALE[u]·AAN_SCALE[v] at n = 8v + u, rounded as the divisors' code rounds it
abbrev pub scale_float : ℕ → Float
scale_float n = mul binary64 (mul binary64 (decimal 8 0) (get_or aan_scale (n % 8) nan)) (get_or aan_scale (n / 8) nan)
