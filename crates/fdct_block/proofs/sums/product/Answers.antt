use mathlib.Core.Path.{◌≡◌, sym, subst, ◌∙◌}
use Prim.Native.Nat.{◌^◌, ◌≤◌}
use native.Mathlib.Nat.{mul-le-mul}
use native.Mathlib.Omega.{arith}
use lib.IntN.{ℤ, nat_abs, ◌*ℤ◌}
use mir.Syntax.{w16, w32, w64}
use mir.Val.{SFits, to_z, of_z}
use mir.ValLaws.{to_z-of_z}
use Rattle.integers.proofs.Ring.{nat_abs-*}
use Rattle.integers.proofs.Bound.{small-fits, fits-small}
use Rattle.integers.proofs.Word.{widens, widened}
use Rattle.fdct_block.proofs.sums.product.Goals as goal

module _ {a b : ℤ} (fa : SFits w16 a) (fb : SFits w32 b) where
  -- the product of the two, widened
  abbrev p : ℤ
  p = to_z w64 (of_z w64 (to_z w16 (of_z w16 a))) *ℤ to_z w64 (of_z w64 (to_z w32 (of_z w32 b)))

  exact : p ≡ a *ℤ b
  exact = λ i. widened w16 w64 tt fa i *ℤ widened w32 w64 tt fb i

  size : nat_abs (a *ℤ b) ≤ 2 ^ 46
  size = rw nat_abs-* (mul-le-mul (fits-small w16 a fa) (fits-small w32 b fb))

  fits : SFits w64 p
  fits = rw exact (small-fits w64 (a *ℤ b) (omega (arith, size)))

  result : (to_z w64 (of_z w64 p) ≡ a *ℤ b) × (nat_abs (to_z w64 (of_z w64 p)) ≤ 2 ^ 46)
  result = let e = to_z-of_z w64 p fits ∙ exact in (e, subst (λ (z : ℤ). nat_abs z ≤ 2 ^ 46) (sym e) size)

pub overflow_cast-result : goal.overflow_cast-result
overflow_cast-result c = widens w16 w64 tt c.ranges.a

pub overflow_cast-result-2 : goal.overflow_cast-result-2
overflow_cast-result-2 c = widens w32 w64 tt c.ranges.b

pub overflow_mul-result : goal.overflow_mul-result
overflow_mul-result c = fits c.ranges.a c.ranges.b

pub returns : goal.returns
returns c = let all = result c.ranges.a c.ranges.b in record { value = all.0; result_bound = all.1 }
