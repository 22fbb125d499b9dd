-- Linear forms: a list of coefficients, and its value at a list of numbers.
use Rattle.std.specs.Prelude.{Bool, true, false, ◌&&◌, ◌||◌, List, [], ◌∷◌, map, ℕ, ◌+◌, eqb, get_or, ℤ, pos, nat_abs, ◌+ℤ◌, ◌*ℤ◌}
use Rattle.std.specs.Int.{Width}
use Rattle.integers.specs.Wrap.{wrap}

-- the sum over k of c[k]·x[k], up to the shorter list's end
unfoldable pub dot : List ℤ → List ℤ → ℤ
dot [] xs = pos 0
dot (c ∷ cs) [] = pos 0
dot (c ∷ cs) (x ∷ xs) = c *ℤ x +ℤ dot cs xs

-- output j is the sum over k of rows[j][k]·x[k], wrapped to the width
unfoldable pub transform : Width → List (List ℤ) → List ℤ → List ℤ
transform w rows xs = map (λ (row : List ℤ). wrap w (dot row xs)) rows

-- the sum of the coefficients' absolute values: the L1 norm of a form
unfoldable pub weight : List ℤ → ℕ
weight [] = 0
weight (c ∷ cs) = nat_abs c + weight cs

-- k is one of ks
unfoldable pub listed : List ℕ → ℕ → Bool
listed [] k = false
listed (n ∷ ns) k = eqb n k || listed ns k

-- the entries ks of xs are zero
unfoldable pub zero_at : List ℕ → List ℤ → Bool
zero_at [] xs = true
zero_at (k ∷ ks) xs = eqb (nat_abs (get_or xs k (pos 0))) 0 && zero_at ks xs

-- the columns ks of a matrix are zero: it does not read those entries
unfoldable pub blank : List ℕ → List (List ℤ) → Bool
blank ks [] = true
blank ks (row ∷ rows) = zero_at ks row && blank ks rows
