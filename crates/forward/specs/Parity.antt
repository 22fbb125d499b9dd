-- Document 02, card 5: the step for one parity of (u, v), on a list c of 64 samples less their centre.
use Rattle.std.specs.Prelude.{Bool, cond, ◌&&◌, List, ℕ, ◌+◌, ◌-◌, ◌*◌, ◌/◌, ◌%◌, eqb, get_or, ℤ, pos, ◌+ℤ◌, ◌*ℤ◌}
use Rattle.lists.specs.Tab.{tab}
use Rattle.basis.specs.Basis.{signed, mirrors, entry}
use Rattle.forward.specs.Sum.{sum_to}
use Rattle.forward.specs.Forward.{quantized_sum}

-- a centred sample with "leaf 3's mirror signs": negated as leaf 3 negates the basis at (x, y), for any u and v of the parity
unfoldable pub mirror_signed : List ℤ → ℕ → ℕ → ℕ → ℕ → ℤ
mirror_signed c u v x y = signed (mirrors u x) (signed (mirrors v y) (get_or c (8 * y + x) (pos 0)))

-- "the sums of four centred samples": those at column x and row y below 4 and at their mirror places
unfoldable pub folded : List ℤ → ℕ → ℕ → ℕ → ℕ → ℤ
folded c u v x y = mirror_signed c u v x y +ℤ mirror_signed c u v (7 - x) y +ℤ mirror_signed c u v x (7 - y) +ℤ mirror_signed c u v (7 - x) (7 - y)

-- "one folded quadrant, 16 numbers", index 4·row + column
unfoldable pub folded_quadrant : List ℤ → ℕ → ℕ → List ℤ
folded_quadrant c u v = tab 16 (λ k. folded c u v (k % 4) (k / 4))

-- the 16-term sum of a quadrant against the table's entries of n
unfoldable pub fold_sum : List ℤ → ℕ → ℤ
fold_sum f n = sum_to 16 (λ k. get_or f k (pos 0) *ℤ entry n (k / 4) (k % 4))

-- n = 8v + u with these parities of u and v
unfoldable pub of_parity : ℕ → ℕ → ℕ → Bool
of_parity u v n = eqb (n % 2) u && eqb (n / 8 % 2) v

-- "it writes that parity's 16 coefficients, and it keeps the other 48 places"
unfoldable pub parity_written : List ℤ → List ℕ → ℕ → ℕ → List ℤ → List ℤ
parity_written c quant u v out = tab 64 (λ n. cond (of_parity u v n) (quantized_sum c quant n) (get_or out n (pos 0)))
