-- A sample of the 8-bit 8×8 inverse against a sample that the exact sum is near to.
-- Assumes nothing.
use mathlib.Core.List.{List}
use Prim.Native.Nat.{ℕ, ◌+◌, ◌*◌, ◌^◌, ◌≤◌, ◌<◌}
use native.Mathlib.Omega.{arith}
use lib.ListN.{get_or}
use lib.IntN.{ℤ, pos, negsuc, nat_abs, ◌+ℤ◌, ◌-ℤ◌, ◌*ℤ◌}
use Rattle.integers.proofs.Difference.{by-dif, differences}
use Rattle.clamping.specs.Clamping.{clamp_to}
use Rattle.passes.specs.Passes.{eight}
use Rattle.block.specs.Bound.{AtMost}
use Rattle.block.specs.Block.{block}
use Rattle.accuracy.specs.Sample.{row_number, exact_number}
use Rattle.accuracy.proofs.Inverse.{number-near, sample}

-- clamping brings a number nearer to what is in the range
pub clamp-nearer : (top a : ℕ) (z : ℤ) → a ≤ top → nat_abs (pos a -ℤ pos (clamp_to top z)) ≤ nat_abs (pos a -ℤ z)
unfolding clamp_to
clamp-nearer top a (pos n) h = simp differences (omega arith)
clamp-nearer top a (negsuc n) h = omega arith

-- the ways from 2^32·a and from 2^32·v to T
through : (a v T : ℤ) → 2 ^ 32 * nat_abs (a -ℤ (v +ℤ pos 128)) ≤ nat_abs (pos (2 ^ 32) *ℤ (a -ℤ pos 128) -ℤ T) + nat_abs (pos (2 ^ 32) *ℤ v -ℤ T)
through = by-dif _ λ a b. by-dif _ λ c d. by-dif _ λ e f. simp differences (omega arith)

-- 2^32·|2^32·(a - 128) - T| ≤ 128·R + 2^31·W is what `quantized-reconstruction` of the crate `orthogonality` gives of a block's sample a
pub comes_back : (D : List ℤ) → AtMost 1151 D → (x y : ℕ) → x < 8 → y < 8 → (a W : ℕ) → a ≤ 255 →
    2 ^ 32 * nat_abs (pos (2 ^ 32) *ℤ (pos a -ℤ pos 128) -ℤ exact_number D x y) ≤ 128 * 90146332016 + 2 ^ 31 * W →
    2 ^ 33 * nat_abs (pos a -ℤ pos (get_or (block eight D) (8 * y + x) 0)) ≤ 2 ^ 34 + W
comes_back D small x y hx hy a W h near =
    let v : ℤ = row_number D x y in
    rw (sample D small x y hx hy) (omega (arith, clamp-nearer 255 a (v +ℤ pos 128) h, through (pos a) v (exact_number D x y), number-near D small x y hx hy))
