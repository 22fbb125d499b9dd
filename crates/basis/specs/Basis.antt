-- Document 01, leaf 3: the basis, an integer for each frequency n = 8v + u and place.
use Rattle.std.specs.Prelude.{Bool, cond, ◌&&◌, List, ℕ, ◌+◌, ◌-◌, ◌*◌, ◌/◌, ◌%◌, ◌^◌, eqb, ltb, get_or, ℤ, pos, neg_ℤ}
use Rattle.lists.specs.Tab.{tab}
use Rattle.basis.specs.Cosine.{cosines}

-- "A multiple m is taken modulo 32, then replaced by 32 - m if above 16"
unfoldable pub reduced : ℕ → ℕ
reduced m = cond (ltb 16 (m % 32)) (32 - m % 32) (m % 32)

-- "if it is then above 8, the cosine is that of 16 - m, negated"
unfoldable pub cosine_of : ℕ → ℕ
cosine_of m = get_or cosines (cond (ltb 8 (reduced m)) (16 - reduced m) (reduced m)) 0

unfoldable pub negated : ℕ → Bool
negated m = ltb 8 (reduced m)

-- z, negated where t
unfoldable pub signed : Bool → ℤ → ℤ
signed t z = cond t (neg_ℤ z) z

-- "An entry is the product of the cosines at (2·column+1)u and (2·row+1)v, negative if just one of the two is negated; a zero
-- frequency beside a nonzero one uses the cosine of m = 4, not negated. The size is (product + 2^93) / 2^94 rounded down. For
-- u = v = 0 it is 2^29."
unfoldable pub factor : ℕ → ℕ → ℕ
factor u column = cond (eqb u 0) (cosine_of 4) (cosine_of ((2 * column + 1) * u))

unfoldable pub entry : ℕ → ℕ → ℕ → ℤ
entry n row column =
    cond (eqb n 0) (pos (2 ^ 29))
    (signed (negated ((2 * column + 1) * (n % 8))) (signed (negated ((2 * row + 1) * (n / 8)))
    (pos ((factor (n % 8) column * factor (n / 8) row + 2 ^ 93) / 2 ^ 94))))

-- the table of 1,024 integers, index 16n + 4·row + column
unfoldable pub basis_table : List ℤ
basis_table = tab 1024 (λ i. entry (i / 16) (i / 4 % 4) (i % 4))

-- "For x above 3 mirror to 7-x and negate if u is odd; likewise y and v": the basis for n at (x, y)
unfoldable pub reflected : ℕ → ℕ
reflected x = cond (ltb 3 x) (7 - x) x

unfoldable pub mirrors : ℕ → ℕ → Bool
mirrors u x = ltb 3 x && eqb (u % 2) 1

unfoldable pub basis : ℕ → ℕ → ℕ → ℤ
basis n x y = signed (mirrors (n % 8) x) (signed (mirrors (n / 8) y) (entry n (reflected y) (reflected x)))
