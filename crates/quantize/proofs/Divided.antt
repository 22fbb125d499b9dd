-- Document 02, card 7: every coefficient is its S divided by d·2^32 and rounded by the remainder.
-- Assumes nothing.
use mathlib.Core.Path.{◌≡◌, refl, ap, ◌∙◌}
use mathlib.Core.Bool.{Bool, cond}
use Prim.Native.Nat.{ℕ, zero, suc, ◌+◌, ◌*◌, ◌/◌, ◌%◌, ◌^◌}
use native.Mathlib.Nat.{div-add-mod', mod-lt}
use native.Mathlib.Omega.{arith}
use borrow.Author.Tests.{le-leb, lt-leb}
use lib.Dec.{leb}
use lib.IntN.{ℤ, pos, negsuc, nat_abs}
use Rattle.quantize.specs.Quantize.{divisor_of, rounded, with_sign, coefficient}
use Rattle.quantize.specs.Divided.{sign_of, DividedRounded}
use Rattle.quantize.proofs.Halves.{sign-size}
use Rattle.quantize.proofs.Zero.{below_half}

-- k with the sign of S, which is 0 where S is
same_sign : (S : ℤ) (k : ℕ) → (S ≡ pos 0 → k ≡ 0) → (with_sign S k ≡ pos 0 → ⊥) → sign_of (with_sign S k) ≡ sign_of S
unfolding with_sign sign_of
same_sign (pos zero) k none some = absurd (some (ap pos (none refl)))
same_sign (pos (suc n)) zero none some = absurd (some refl)
same_sign (pos (suc n)) (suc k) none some = refl
same_sign (negsuc n) zero none some = absurd (some refl)
same_sign (negsuc n) (suc k) none some = refl

pub divided-rounded : (S : ℤ) (quantizer : ℕ) → DividedRounded S (divisor_of quantizer * 2 ^ 32) (coefficient S quantizer)
unfolding coefficient divisor_of rounded
divided-rounded S quantizer =
    let m : ℕ = divisor_of quantizer * 2 ^ 32 in
    let q : ℕ = nat_abs S / m in
    let r : ℕ = nat_abs S % m in
    let sized : nat_abs (coefficient S quantizer) ≡ q + cond (leb m (2 * r)) 1 0 = sign-size S _ in
    record {
      quotient = q;
      remainder = r;
      make-up = div-add-mod' (nat_abs S) m;
      below = mod-lt (nat_abs S) (omega arith);
      sign = same_sign S (rounded (nat_abs S) m) (λ e. ap (λ (z : ℤ). rounded (nat_abs z) m) e ∙ below_half 0 m (omega arith));
      size = λ h. sized ∙ ap (λ (t : Bool). q + cond t 1 0) (lt-leb m (2 * r) h) ∙ omega arith;
      one_more = λ h. sized ∙ ap (λ (t : Bool). q + cond t 1 0) (le-leb m (2 * r) h);
    }
