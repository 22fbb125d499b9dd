-- What rounds to zero, and that it does so under every larger divisor. Assumes nothing.
use mathlib.Core.Path.{◌≡◌, refl, sym, ap, ◌∙◌}
use mathlib.Core.Bool.{Bool, true, false, cond}
use Prim.Native.Nat.{ℕ, ◌+◌, ◌*◌, ◌/◌, ◌%◌, ◌^◌, ◌≤◌, ◌<◌}
use native.Mathlib.Nat.{div-add-mod', div-eq_of_lt, mod-le, zero-mul}
use native.Mathlib.Omega.{arith}
use borrow.Author.Tests.{leb-false, lt-leb}
use lib.Dec.{leb}
use lib.IntN.{ℤ, pos, negsuc, nat_abs}
use Rattle.quantize.specs.Quantize.{divisor_of, rounded, with_sign, coefficient}
use Rattle.quantize.proofs.Halves.{sign-size}

-- a / c below a half, and only that
pub below_half : (a c : ℕ) → a * 2 < c → rounded a c ≡ 0
unfolding rounded
below_half a c h = let l : a < c = omega arith in rw (div-eq_of_lt l, lt-leb c (2 * (a % c)) (omega (arith, mod-le a c)))

half-below : (a c : ℕ) → 0 < c → rounded a c ≡ 0 → a * 2 < c
unfolding rounded
half-below a c p e = go (leb c (2 * (a % c))) refl e
  where
    go : (t : Bool) → leb c (2 * (a % c)) ≡ t → a / c + cond t 1 0 ≡ 0 → a * 2 < c
    go true l z = absurd (omega arith)
    go false l z =
        let none : a / c ≡ 0 = omega arith in
        let part : a / c * c ≡ 0 = ap (λ (x : ℕ). x * c) none ∙ zero-mul c in
        omega (arith, div-add-mod' a c, leb-false c (2 * (a % c)) l)

sign_zero : (S : ℤ) → with_sign S 0 ≡ pos 0
unfolding with_sign
sign_zero (pos n) = refl
sign_zero (negsuc n) = refl

pub coefficient-zero : (S : ℤ) (q r : ℕ) → divisor_of q ≤ divisor_of r → coefficient S q ≡ pos 0 → coefficient S r ≡ pos 0
unfolding coefficient divisor_of
coefficient-zero S q r h e =
    let size : rounded (nat_abs S) (divisor_of q * 2 ^ 32) ≡ 0 = sym (sign-size S _) ∙ ap nat_abs e in
    let small = half-below (nat_abs S) (divisor_of q * 2 ^ 32) (omega arith) size in
    ap (with_sign S) (below_half (nat_abs S) (divisor_of r * 2 ^ 32) (omega arith)) ∙ sign_zero S
