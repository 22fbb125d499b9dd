-- Shifts of a signed number, at any width, as a need or a result speaks of them; n is 2 ^ k for a shift by k.
-- Assumes nothing.
use mathlib.Core.Path.{◌≡◌, ap, ◌∙◌}
use Prim.Native.Nat.{ℕ, ◌*◌, ◌%◌, ◌^◌, ◌<◌}
use native.Mathlib.Nat.{mod-lt, mod-eq_of_lt}
use native.Mathlib.Omega.{arith}
use lib.IntN.{ℤ, pos, ◌*ℤ◌}
use lib.Pow.{pow_pos, pow-lt}
use lib.Signed.{mag_shr}
use mir.Syntax.{Width}
use mir.Val.{SFits, bits, hbits, to_z, of_z}
use mir.ValLaws.{to_z-of_z, to_z_pos, half_full, sfits_le}
use Rattle.integers.specs.Wrap.{wrap}
use Rattle.integers.specs.Floor.{floor_div}
use Rattle.integers.proofs.Congruence.{then, times, itself, remainder}
use Rattle.integers.proofs.Wrap.{of_z-congruent, wrap-bits}

module _ (w : Width) where
  -- `x << k`
  pub shl-wraps : {x : ℤ} (n : ℕ) → SFits w x → to_z w ((of_z w x * n) % 2 ^ bits w) ≡ wrap w (x *ℤ pos n)
  shl-wraps {x} n f = wrap-bits w (mod-lt _ (pow_pos (bits w))) (then (remainder (of_z w x * n)) (times (of_z-congruent w x f) (itself (pos n))))

  -- `1 << k` is 2 ^ k: it does not reach the sign
  pub one_shl : {k : ℕ} → k < hbits w → to_z w ((1 * 2 ^ k) % 2 ^ bits w) ≡ pos (2 ^ k)
  one_shl {k} h =
      let e : 1 * 2 ^ k ≡ 2 ^ k = omega arith in
      ap (to_z w) (ap (λ (t : ℕ). t % 2 ^ bits w) e ∙ mod-eq_of_lt (half_full w (pow-lt h))) ∙ to_z_pos w (2 ^ k) (pow-lt h)

  pub floor-fits : {x : ℤ} (n : ℕ) → SFits w x → SFits w (floor_div x n)
  floor-fits {x} n f = sfits_le (mag_shr x n) f

  -- `x >> k`
  pub shr-floors : {x : ℤ} (n : ℕ) → SFits w x → to_z w (of_z w (floor_div (to_z w (of_z w x)) n)) ≡ floor_div x n
  shr-floors {x} n f = ap (λ (z : ℤ). to_z w (of_z w (floor_div z n))) (to_z-of_z w x f) ∙ to_z-of_z w (floor_div x n) (floor-fits n f)
