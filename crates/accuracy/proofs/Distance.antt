-- The products of the gains against the basis, computed once by the checker.
-- Assumes nothing.
use mathlib.Core.Path.{◌≡◌}
use mathlib.Core.Bool.{Bool}
use mathlib.Core.List.{List}
use Prim.Native.Nat.{ℕ, ◌+◌, ◌*◌, ◌/◌, ◌%◌, ◌≤◌, ◌<◌}
use native.Mathlib.Omega.{arith}
use lib.Dec.{T, leb, leb→le}
use lib.IntN.{ℤ, pos, nat_abs, ◌-ℤ◌, ◌*ℤ◌}
use Rattle.lists.specs.Below.{below}
use Rattle.lists.proofs.Below.{below_at}
use Rattle.gains.specs.Gains.{mirror, mirrored, upper, gains}
use Rattle.basis.specs.Cosine.{cosines}
use Rattle.basis.specs.Basis.{reduced, cosine_of, negated, signed, factor, entry, reflected, mirrors, basis}
use Rattle.forward.specs.Sum.{total}
use Rattle.forward.proofs.Sum.{gain_of}

-- 8 times the gains' products at (x, y) against the basis there, over the gains as an argument, so that they are computed once
unfoldable pub distance : List (List ℤ) → ℕ → ℕ → ℕ
distance rows x y = total 64 (λ n. nat_abs (pos 8 *ℤ (gain_of rows x (n % 8) *ℤ gain_of rows y (n / 8)) -ℤ basis n x y))

within : List (List ℤ) → Bool
within rows = below 64 (λ p. leb (distance rows (p % 8) (p / 8)) 2818546)

computed : T (within gains)
unfolding below total mirror mirrored upper gains gain_of cosines reduced cosine_of negated signed factor entry reflected mirrors basis distance within
computed = tt

pub products-near : (x y : ℕ) → x < 8 → y < 8 → distance gains x y ≤ 2818546
unfolding within
products-near x y hx hy =
    let p : ℕ = 8 * y + x in
    let column : p % 8 ≡ x = omega arith in
    let row : p / 8 ≡ y = omega arith in
    rw (column, row) at (leb→le (distance gains (p % 8) (p / 8)) 2818546 (below_at 64 (λ q. leb (distance gains (q % 8) (q / 8)) 2818546) computed p (omega arith)))
