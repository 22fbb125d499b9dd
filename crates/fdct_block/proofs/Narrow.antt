-- A pair of two small numbers, at 16 bits.
-- Assumes nothing.
use mathlib.Core.Path.{◌≡◌, refl}
use mathlib.Core.Bool.{Bool, true, false}
use Prim.Native.Nat.{◌+◌, ◌^◌, ◌≤◌}
use native.Mathlib.Omega.{arith}
use lib.IntN.{ℤ, neg_ℤ, nat_abs, ◌+ℤ◌, ◌-ℤ◌}
use mir.Syntax.{w16}
use mir.Val.{SFits, to_z, of_z}
use mir.ValLaws.{to_z-of_z}
use Rattle.integers.proofs.Ring.{nat_abs-+, nat_abs-neg}
use Rattle.integers.proofs.Bound.{small-fits}
use Rattle.basis.specs.Basis.{signed}

-- what a call gave, read back from its bits
pub kept : (r : ℤ) → nat_abs r ≤ 2 ^ 14 → to_z w16 (of_z w16 r) ≡ r
kept r h = to_z-of_z w16 r (small-fits w16 r (omega arith))

-- where an argument's own bits are read back
module _ {a b : ℤ} (fa : SFits w16 a) (fb : SFits w16 b) (ha : nat_abs a ≤ 2 ^ 13) (hb : nat_abs b ≤ 2 ^ 13) where
  sum : to_z w16 (of_z w16 a) +ℤ to_z w16 (of_z w16 b) ≡ a +ℤ b
  sum = λ i. to_z-of_z w16 a fa i +ℤ to_z-of_z w16 b fb i

  difference : to_z w16 (of_z w16 a) -ℤ to_z w16 (of_z w16 b) ≡ a -ℤ b
  difference = λ i. to_z-of_z w16 a fa i -ℤ to_z-of_z w16 b fb i

  sum-size : nat_abs (a +ℤ b) ≤ nat_abs a + nat_abs b
  sum-size = nat_abs-+ a b

  difference-size : nat_abs (a -ℤ b) ≤ nat_abs a + nat_abs b
  difference-size = omega (arith, nat_abs-+ a (neg_ℤ b), nat_abs-neg b)

  pub sum_fits : SFits w16 (to_z w16 (of_z w16 a) +ℤ to_z w16 (of_z w16 b))
  sum_fits = rw sum (small-fits w16 (a +ℤ b) (omega (arith, sum-size)))

  pub difference-fits : SFits w16 (to_z w16 (of_z w16 a) -ℤ to_z w16 (of_z w16 b))
  difference-fits = rw difference (small-fits w16 (a -ℤ b) (omega (arith, difference-size)))

  abbrev Paired : Bool → ℤ → Type 0
  Paired t r = (r ≡ a +ℤ signed t b) × (nat_abs r ≤ nat_abs a + nat_abs b)

  pub added : {t : Bool} → t ≡ false → Paired t (to_z w16 (of_z w16 (to_z w16 (of_z w16 a) +ℤ to_z w16 (of_z w16 b))))
  unfolding signed
  added e = rw (to_z-of_z w16 _ sum_fits, sum, e) ((refl, sum-size))

  pub taken : {t : Bool} → t ≡ true → Paired t (to_z w16 (of_z w16 (to_z w16 (of_z w16 a) -ℤ to_z w16 (of_z w16 b))))
  unfolding signed
  taken e = rw (to_z-of_z w16 _ difference-fits, difference, e) ((refl, difference-size))
