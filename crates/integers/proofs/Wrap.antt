-- The laws of `wrap`: it is in range, congruent, and the only such number; so what is congruent wraps to the same.
-- Assumes nothing.
use mathlib.Core.Path.{◌≡◌, refl, sym, ap, ◌∙◌}
use mathlib.Core.Bool.{Bool, true, false}
use Prim.Native.Nat.{ℕ, suc, ◌-◌, ◌%◌, ◌^◌, ◌<◌}
use native.Mathlib.Omega.{arith}
use lib.Dec.{ltb}
use lib.IntN.{ℤ, pos, negsuc, ◌+ℤ◌, ◌-ℤ◌, ◌*ℤ◌}
use lib.Pow.{pow_pos}
use mir.Syntax.{Width}
use mir.Val.{SFits, bits, hbits, to_z, of_z, sel}
use mir.ValLaws.{to_z-of_z, to_z-Fits, of_z_fits, half_full}
use Rattle.std.specs.Int.{int_wrap}
use Rattle.integers.specs.Wrap.{modulo, wrap}
use Rattle.integers.proofs.Difference.{dif-eq, differences}
use Rattle.integers.proofs.Congruence.{Congruent, equal, itself, inverse, then, plus, minus, times, modulo-lt, modulo-congruent, modulo-unique, modulo-cong}

complement : {m k : ℕ} → k < m → Congruent m (negsuc k) (pos (m - suc k))
complement h = record { multiple = negsuc 0; is = simp differences (dif-eq _ _ _ _ (omega arith)) }

-- what std's wrapping methods give
pub int_wrap-is : (w : Width) (z : ℤ) → int_wrap w z ≡ wrap w z
unfolding int_wrap wrap modulo
int_wrap-is w (pos n) = refl
int_wrap-is w (negsuc n) = ap (to_z w) (omega arith)

module _ (w : Width) where
  abbrev pub Same : ℤ → ℤ → Type 0
  Same = Congruent (2 ^ bits w)

  pub wrap-fits : (z : ℤ) → SFits w (wrap w z)
  unfolding wrap
  wrap-fits z = to_z-Fits w _ (record { fits = modulo-lt (pow_pos (bits w)) z })

  signed : {r : ℕ} → r < 2 ^ bits w → (b : Bool) → Same (sel b (pos r) (negsuc (2 ^ bits w - suc r))) (pos r)
  signed h true = equal refl
  signed {r} h false =
      let e : 2 ^ bits w - suc (2 ^ bits w - suc r) ≡ r = omega arith in
      then (complement (omega arith)) (equal (ap pos e))

  -- bits are congruent to the number that they stand for
  pub to_z-congruent : {r : ℕ} → r < 2 ^ bits w → Same (to_z w r) (pos r)
  to_z-congruent {r} h = signed h (ltb r (2 ^ hbits w))

  pub of_z-congruent : (z : ℤ) → SFits w z → Same (pos (of_z w z)) z
  of_z-congruent (pos n) f = equal refl
  of_z-congruent (negsuc n) f = inverse (complement (half_full w f.sfits))

  pub wrap-congruent : (z : ℤ) → Same (wrap w z) z
  unfolding wrap
  wrap-congruent z = then (to_z-congruent (modulo-lt (pow_pos (bits w)) z)) (modulo-congruent (pow_pos (bits w)) z)

  pub wrap-cong : {x y : ℤ} → Same x y → wrap w x ≡ wrap w y
  unfolding wrap
  wrap-cong c = ap (to_z w) (modulo-cong (pow_pos (bits w)) c)

  -- the bits of a result, read as signed
  pub wrap-bits : {s : ℕ} {z : ℤ} → s < 2 ^ bits w → Same (pos s) z → to_z w s ≡ wrap w z
  unfolding wrap
  wrap-bits h c = ap (to_z w) (modulo-unique (pow_pos (bits w)) h c)

  pub wrap-id : (z : ℤ) → SFits w z → wrap w z ≡ z
  unfolding wrap
  wrap-id z f = sym (wrap-bits (of_z_fits w z f).fits (of_z-congruent z f)) ∙ to_z-of_z w z f

  -- the only number in range that is congruent to z
  pub wrap-unique : {y z : ℤ} → SFits w y → Same y z → y ≡ wrap w z
  wrap-unique {y} f c = sym (wrap-id y f) ∙ wrap-cong c

  pub wrap-twice : (z : ℤ) → wrap w (wrap w z) ≡ wrap w z
  wrap-twice z = wrap-cong (wrap-congruent z)

  pub wrap-+ : (a b : ℤ) → wrap w (wrap w a +ℤ wrap w b) ≡ wrap w (a +ℤ b)
  wrap-+ a b = wrap-cong (plus (wrap-congruent a) (wrap-congruent b))

  pub wrap-+right : (a b : ℤ) → wrap w (a +ℤ wrap w b) ≡ wrap w (a +ℤ b)
  wrap-+right a b = wrap-cong (plus (itself a) (wrap-congruent b))

  pub wrap-- : (a b : ℤ) → wrap w (wrap w a -ℤ wrap w b) ≡ wrap w (a -ℤ b)
  wrap-- a b = wrap-cong (minus (wrap-congruent a) (wrap-congruent b))

  pub wrap-* : (a k : ℤ) → wrap w (wrap w a *ℤ k) ≡ wrap w (a *ℤ k)
  wrap-* a k = wrap-cong (times (wrap-congruent a) (itself k))

  -- what a call gave as a wrapped number, read back from its bits
  pub wrap-read : {r : ℤ} (z : ℤ) → r ≡ wrap w z → to_z w (of_z w r) ≡ wrap w z
  wrap-read z e = rw e (to_z-of_z w (wrap w z) (wrap-fits z))
