-- Twice a product, less and more its divisor, at 32 bits.
-- Assumes nothing.
use mathlib.Core.Path.{◌≡◌, refl, sym, subst, ◌∙◌}
use Prim.Native.Nat.{ℕ, ◌^◌, ◌<◌, ◌≤◌}
use native.Mathlib.Omega.{arith}
use lib.IntN.{ℤ, pos, neg_ℤ, nat_abs, ◌+ℤ◌, ◌-ℤ◌, ◌*ℤ◌}
use mir.Syntax.{w32}
use mir.Val.{SFits, to_z, of_z}
use mir.ValLaws.{to_z-of_z, to_z_pos}
use Rattle.integers.proofs.Ring.{nat_abs-+, nat_abs-*, nat_abs-neg}
use Rattle.integers.proofs.Bound.{small-fits}

-- y fits, and its bits stand for x
pub record Reads (y x : ℤ) : Type 0 where
  pub fits : SFits w32 y
  pub is : to_z w32 (of_z w32 y) ≡ x

small : {y x : ℤ} → y ≡ x → nat_abs x < 2 ^ 31 → Reads y x
small {y} {x} e h = let f : SFits w32 y = subst (SFits w32) (sym e) (small-fits w32 x h) in record { fits = f; is = to_z-of_z w32 y f ∙ e }

module _ (p : ℤ) (most : nat_abs p ≤ 8355840) where
  pub twice : Reads (pos 2 *ℤ to_z w32 (of_z w32 p)) (pos 2 *ℤ p)
  twice = let r = small {x = p} refl (omega arith) in small (λ i. pos 2 *ℤ r.is i) (omega (arith, nat_abs-* (pos 2) p))

  module _ {d : ℕ} (h : d < 256) where
    wide : to_z w32 d ≡ pos d
    wide = to_z_pos w32 d (omega arith)

    pub less : Reads (to_z w32 (of_z w32 (pos 2 *ℤ to_z w32 (of_z w32 p))) -ℤ to_z w32 d) (pos 2 *ℤ p -ℤ pos d)
    less = small (λ i. twice.is i -ℤ wide i) (omega (arith, nat_abs-* (pos 2) p, nat_abs-+ (pos 2 *ℤ p) (neg_ℤ (pos d)), nat_abs-neg (pos d)))

    pub more : Reads (to_z w32 (of_z w32 (pos 2 *ℤ to_z w32 (of_z w32 p))) +ℤ to_z w32 d) (pos 2 *ℤ p +ℤ pos d)
    more = small (λ i. twice.is i +ℤ wide i) (omega (arith, nat_abs-* (pos 2) p, nat_abs-+ (pos 2 *ℤ p) (pos d)))
