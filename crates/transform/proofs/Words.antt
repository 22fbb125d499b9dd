-- The DC of 64 equal samples, in the code's 64 bits.
-- Assumes nothing.
use mathlib.Core.Path.{◌≡◌, sym, ap, subst, ◌∙◌}
use Prim.Native.Nat.{ℕ, ◌^◌, ◌<◌, ◌≤◌}
use native.Mathlib.Nat.{le_trans, le_of_eq, mul-le-mul_right}
use native.Mathlib.Omega.{arith}
use lib.IntN.{ℤ, pos, nat_abs, ◌-ℤ◌, ◌*ℤ◌}
use mir.Syntax.{w64}
use mir.Val.{SFits, to_z, of_z}
use mir.ValLaws.{to_z-of_z, to_z_pos}
use Rattle.integers.proofs.Difference.{distance}
use Rattle.integers.proofs.Ring.{nat_abs-*}
use Rattle.integers.proofs.Bound.{small-fits}

module _ (s : ℕ) (h : s < 256) where
  abbrev less : ℤ
  less = pos s -ℤ pos 128

  abbrev difference : ℤ
  difference = to_z w64 s -ℤ pos 128

  size : nat_abs less ≤ 128
  size = omega (arith, distance s 128)

  read : difference ≡ less
  read = ap (λ (z : ℤ). z -ℤ pos 128) (to_z_pos w64 s (omega arith))

  pub difference-fits : SFits w64 difference
  difference-fits = subst (SFits w64) (sym read) (small-fits w64 less (omega (arith, size)))

  abbrev scaled : ℤ
  scaled = to_z w64 (of_z w64 difference) *ℤ pos (2 ^ 35)

  value : scaled ≡ less *ℤ pos (2 ^ 35)
  value = ap (λ (z : ℤ). z *ℤ pos (2 ^ 35)) (to_z-of_z w64 difference difference-fits ∙ read)

  scaled-size : nat_abs scaled ≤ 2 ^ 42
  scaled-size = le_trans (le_of_eq (ap nat_abs value ∙ nat_abs-* less (pos (2 ^ 35)))) (mul-le-mul_right (2 ^ 35) size)

  pub scaled_fits : SFits w64 scaled
  scaled_fits = small-fits w64 scaled (omega (arith, scaled-size))

  pub product : to_z w64 (of_z w64 scaled) ≡ less *ℤ pos (2 ^ 35)
  product = to_z-of_z w64 scaled scaled_fits ∙ value

  pub product-size : nat_abs (to_z w64 (of_z w64 scaled)) ≤ 2 ^ 46
  product-size = let l : nat_abs (to_z w64 (of_z w64 scaled)) ≤ 2 ^ 42 = le_trans (le_of_eq (ap nat_abs (to_z-of_z w64 scaled scaled_fits))) scaled-size in omega arith
