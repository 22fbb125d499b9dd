-- Rounding by adding half the divisor, as other steps than `quantize` do it; and the sign of a coefficient.
-- Assumes nothing.
use mathlib.Core.Path.{◌≡◌, refl, sym, ap, ◌∙◌}
use mathlib.Core.Bool.{Bool, true, false, cond}
use Prim.Native.Nat.{ℕ, zero, suc, ◌+◌, ◌*◌, ◌/◌, ◌%◌, ◌^◌, ◌<◌, ◌≤◌}
use native.Mathlib.Decide.{dec_le}
use native.Mathlib.Nat.{div-add-mod', mod-lt, mul-add-div_right, div-eq_of_lt, div-eq_of_lt-le}
use native.Mathlib.Omega.{arith}
use borrow.Author.Tests.{le-leb, lt-leb, ltb-true}
use lib.Dec.{leb}
use lib.IntN.{ℤ, pos, negsuc, neg_ℤ, nat_abs, ◌-ℤ◌, +ℤ_idl}
use lib.Signed.{lt_z}
use mir.Syntax.{w16, w64}
use mir.Val.{SFits, to_z, of_z}
use mir.ValLaws.{to_z-of_z, to_z_pos}
use Rattle.integers.proofs.Ring.{nat_abs-neg}
use Rattle.quantize.specs.Quantize.{rounded, with_sign}

-- half of m added, then divided
pub rounded-half : (a h : ℕ) → 0 < h → (a + h) / (2 * h) ≡ rounded a (2 * h)
unfolding rounded
rounded-half a h p =
    let m : ℕ = 2 * h in
    let q : ℕ = a / m in
    let r : ℕ = a % m in
    let whole : q * m + r ≡ a = div-add-mod' a m in
    let small : r < m = mod-lt a (omega arith) in
    ap (λ (n : ℕ). (n + h) / m) (sym whole) ∙ ap (λ (n : ℕ). n / m) (omega arith) ∙ mul-add-div_right (omega arith) q (r + h) ∙ ap (λ (n : ℕ). q + n) (go (dec_le m (2 * r)) small)
  where
    go : Dec (2 * h ≤ 2 * (a % (2 * h))) → a % (2 * h) < 2 * h → (a % (2 * h) + h) / (2 * h) ≡ cond (leb (2 * h) (2 * (a % (2 * h)))) 1 0
    go (yes l) s = div-eq_of_lt-le (2 * h) (omega arith) (omega arith) ∙ sym (ap (λ (t : Bool). cond t 1 0) (le-leb (2 * h) (2 * (a % (2 * h))) l))
    go (no l) s = div-eq_of_lt (omega arith) ∙ sym (ap (λ (t : Bool). cond t 1 0) (lt-leb (2 * h) (2 * (a % (2 * h))) (omega arith)))

-- ---- the sign, as the code gives it

neg-fits : (n : ℕ) → n < 2 ^ 15 → SFits w16 (neg_ℤ (pos n))
neg-fits zero h = record { sfits = h }
neg-fits (suc n) h = record { sfits = omega arith }

pub sign_fits : (S : ℤ) {n : ℕ} → n < 2 ^ 15 → SFits w16 (with_sign S n)
unfolding with_sign
sign_fits (pos k) h = record { sfits = h }
sign_fits (negsuc k) {n} h = neg-fits n h

below : (S : ℤ) (n : ℕ) → lt_z S (pos 0) ≡ true → neg_ℤ (pos n) ≡ with_sign S n
unfolding with_sign
below (pos k) n t = let l : k < 0 = ltb-true k 0 t in absurd (omega arith)
below (negsuc k) n t = refl

above : (S : ℤ) (n : ℕ) → lt_z S (pos 0) ≡ false → pos n ≡ with_sign S n
unfolding with_sign
above (pos k) n t = refl
above (negsuc k) n t = let e : ◌≡◌ {A = ℕ} 0 1 = cc in absurd (omega arith)

pub sign-size : (S : ℤ) (k : ℕ) → nat_abs (with_sign S k) ≡ k
unfolding with_sign
sign-size (pos n) k = refl
sign-size (negsuc n) k = nat_abs-neg (pos k)

module _ {n : ℕ} (h : n < 2 ^ 15) where
  opposite : pos 0 -ℤ to_z w16 n ≡ neg_ℤ (pos n)
  opposite = ap (λ (z : ℤ). pos 0 -ℤ z) (to_z_pos w16 n h) ∙ +ℤ_idl (neg_ℤ (pos n))

  pub negated_fits : SFits w16 (pos 0 -ℤ to_z w16 n)
  negated_fits = rw opposite (neg-fits n h)

  -- by the test of S, read back from its bits
  pub negated-value : {S : ℤ} → SFits w64 S → lt_z (to_z w64 (of_z w64 S)) (pos 0) ≡ true → to_z w16 (of_z w16 (pos 0 -ℤ to_z w16 n)) ≡ with_sign S n
  negated-value {S} f t = to_z-of_z w16 _ negated_fits ∙ opposite ∙ below S n (rw (to_z-of_z w64 S f) at t)

  pub kept-value : {S : ℤ} → SFits w64 S → lt_z (to_z w64 (of_z w64 S)) (pos 0) ≡ false → to_z w16 n ≡ with_sign S n
  kept-value {S} f t = to_z_pos w16 n h ∙ above S n (rw (to_z-of_z w64 S f) at t)
