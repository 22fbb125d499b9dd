-- What the code of the crate `wrapping` asks and gives, at any width. A signed local holds bits, so each need speaks of `to_z w (of_z w x)`,
-- which is x where x fits.
-- Assumes nothing.
use mathlib.Core.Path.{◌≡◌, refl, sym, ap, ◌∙◌, subst}
use mathlib.Core.Bool.{true, false}
use Prim.Native.Nat.{ℕ, zero, suc, ◌+◌, ◌-◌, ◌*◌, ◌/◌, ◌%◌, ◌^◌, ◌<◌, ◌≤◌}
use native.Mathlib.Nat.{mod-lt, div-add-mod', mul-le-mul_left, mul-lt-mul_of_pos_right, le_of_lt, lt_of_le_of_lt}
use native.Mathlib.Omega.{arith}
use lib.Dec.{T, leb, leb-zero}
use lib.IntN.{ℤ, pos, negsuc, nat_abs, ◌+ℤ◌, ◌-ℤ◌, ◌*ℤ◌, -ℤ_one, +ℤ_comm}
use lib.Pow.{pow_pos, pow-add}
use lib.Signed.{le_z, non_neg}
use mir.Syntax.{Width}
use mir.Val.{Fits, SFits, bits, hbits, to_z, of_z}
use mir.Facts.{sfits_widen}
use mir.ValLaws.{to_z-of_z, to_z-neg, to_z_pos, half_full, pow-bits}
use Rattle.integers.specs.Wrap.{modulo, wrap}
use Rattle.integers.proofs.Difference.{dif-eq, differences}
use Rattle.integers.proofs.Congruence.{Congruent, equal, itself, inverse, then, plus, minus, times, remainder, modulo-unique}
use Rattle.integers.proofs.Wrap.{Same, of_z-congruent, wrap-bits, wrap-fits}

-- -1 - x: every bit of x turned over
abbrev pub flip : ℤ → ℤ
flip (pos n) = negsuc n
flip (negsuc n) = pos n

minus-one-minus : (x : ℤ) → negsuc 0 -ℤ x ≡ flip x
minus-one-minus (pos zero) = refl
minus-one-minus (pos (suc n)) = ap (λ (t : ℕ). negsuc (suc t)) (omega arith)
minus-one-minus (negsuc n) = +ℤ_comm (negsuc 0) (pos (suc n)) ∙ -ℤ_one (pos (suc n))

flip-fits : {w : Width} (x : ℤ) → SFits w x → SFits w (flip x)
flip-fits (pos n) f = record { sfits = f.sfits }
flip-fits (negsuc n) f = record { sfits = f.sfits }

clash : {A : Type 0} → false ≡ true → A
clash e = absurd (subst T (sym e) tt)

-- what a cast to the unsigned type asks
abbrev Unsigned : Width → ℤ → Type 0
Unsigned w z = T (non_neg z) × Fits w (nat_abs z)

-- ---- `to_bits`: `x as u32` where x is at least 0, else `u32::MAX - ((-1 - x) as u32)`

module _ (w : Width) where
  cast-nonneg : (x : ℤ) → SFits w x → le_z (pos 0) x ≡ true → Unsigned w x × (nat_abs x ≡ of_z w x)
  cast-nonneg (pos n) f t = ((tt, record { fits = half_full w f.sfits }), refl)
  cast-nonneg (negsuc n) f t = clash t

  cast-neg : (x : ℤ) → SFits w x → le_z (pos 0) x ≡ false → Unsigned w (flip x) × (nat_abs (flip x) ≤ 2 ^ bits w - 1) × (2 ^ bits w - 1 - nat_abs (flip x) ≡ of_z w x)
  cast-neg (pos n) f t = clash (sym t ∙ leb-zero n)
  cast-neg (negsuc n) f t =
      let h : n < 2 ^ bits w = half_full w f.sfits in
      ((tt, record { fits = h }), omega arith, omega arith)

flip-size : (x : ℤ) → le_z (pos 0) x ≡ false → nat_abs (flip x) + 1 ≡ nat_abs x
flip-size (pos n) t = clash (sym t ∙ leb-zero n)
flip-size (negsuc n) t = omega arith

module _ (w : Width) {x : ℤ} (f : SFits w x) where
  pub flips : SFits w (negsuc 0 -ℤ to_z w (of_z w x))
  flips = rw (to_z-of_z w x f, minus-one-minus x) (flip-fits x f)

  pub flipped : to_z w (of_z w (negsuc 0 -ℤ to_z w (of_z w x))) ≡ flip x
  flipped = to_z-of_z w _ flips ∙ ap (λ (z : ℤ). negsuc 0 -ℤ z) (to_z-of_z w x f) ∙ minus-one-minus x

  pub to-bits-nonneg : le_z (pos 0) (to_z w (of_z w x)) ≡ true → Unsigned w (to_z w (of_z w x)) × (nat_abs (to_z w (of_z w x)) ≡ of_z w x)
  to-bits-nonneg t = rw (to_z-of_z w x f) (cast-nonneg w x f (rw (to_z-of_z w x f) at t))

  pub to-bits-neg : le_z (pos 0) (to_z w (of_z w x)) ≡ false →
      let y : ℤ = to_z w (of_z w (negsuc 0 -ℤ to_z w (of_z w x))) in
      Unsigned w y × (nat_abs y ≤ 2 ^ bits w - 1) × (2 ^ bits w - 1 - nat_abs y ≡ of_z w x)
  to-bits-neg t = rw flipped (cast-neg w x f (rw (to_z-of_z w x f) at t))

  -- the absolute value of x: `x as u64` where x is at least 0, else `((-1 - x) as u64) + 1`
  pub abs-nonneg : nat_abs (to_z w (of_z w x)) ≡ nat_abs x
  abs-nonneg = ap nat_abs (to_z-of_z w x f)

  pub abs_neg : le_z (pos 0) (to_z w (of_z w x)) ≡ false → nat_abs (to_z w (of_z w (negsuc 0 -ℤ to_z w (of_z w x)))) + 1 ≡ nat_abs x
  abs_neg t = rw flipped (flip-size x (rw (to_z-of_z w x f) at t))

-- ---- `from_bits` above the signed range: `-1 - ((u32::MAX - x) as i32)`

module _ (w : Width) {n : ℕ} (f : n < 2 ^ bits w) (h : 2 ^ hbits w ≤ n) where
  high : 2 ^ bits w - 1 - n < 2 ^ hbits w
  high = let e : 2 ^ bits w ≡ 2 ^ hbits w * 2 = pow-bits w in omega arith

  pub from-bits-asks : SFits w (negsuc 0 -ℤ to_z w (2 ^ bits w - 1 - n))
  from-bits-asks = rw (to_z_pos w _ high, minus-one-minus (pos (2 ^ bits w - 1 - n))) (record { sfits = high })

  pub from-bits-high : to_z w (of_z w (negsuc 0 -ℤ to_z w (2 ^ bits w - 1 - n))) ≡ to_z w n
  from-bits-high =
      let k : ℕ = 2 ^ bits w - 1 - n in
      let e : 2 ^ bits w - suc k ≡ n = omega arith in
      to_z-of_z w _ from-bits-asks ∙ ap (λ (z : ℤ). negsuc 0 -ℤ z) (to_z_pos w k high) ∙ minus-one-minus (pos k) ∙ sym (to_z-neg w k high) ∙ ap (to_z w) e

-- ---- the operations, on the bits u and v of a and b: the result r is read off its bits s

module _ (w : Width) {a b : ℤ} (fa : SFits w a) (fb : SFits w b) {u v : ℕ} (eu : u ≡ of_z w (to_z w (of_z w a))) (ev : v ≡ of_z w (to_z w (of_z w b))) where
  bits_of : {x : ℤ} {n : ℕ} → SFits w x → n ≡ of_z w (to_z w (of_z w x)) → Same w (pos n) x
  bits_of {x} f e = then (equal (ap pos (e ∙ ap (of_z w) (to_z-of_z w x f)))) (of_z-congruent w x f)

  module _ {s : ℕ} {r : ℤ} (er : r ≡ to_z w s) where
    signed : {z : ℤ} → s < 2 ^ bits w → Same w (pos s) z → to_z w (of_z w r) ≡ wrap w z
    signed {z} h c = ap (λ (t : ℤ). to_z w (of_z w t)) (er ∙ wrap-bits w h c) ∙ to_z-of_z w (wrap w z) (wrap-fits w z)

    reduced : {n : ℕ} {z : ℤ} → s ≡ n % 2 ^ bits w → Same w (pos n) z → to_z w (of_z w r) ≡ wrap w z
    reduced {n} e c = signed (rw e (mod-lt n (pow_pos (bits w)))) (then (equal (ap pos e)) (then (remainder n) c))

    pub sum_wraps : s ≡ (u + v) % 2 ^ bits w → to_z w (of_z w r) ≡ wrap w (a +ℤ b)
    sum_wraps e = reduced e (plus (bits_of fa eu) (bits_of fb ev))

    pub product-wraps : s ≡ (u * v) % 2 ^ bits w → to_z w (of_z w r) ≡ wrap w (a *ℤ b)
    product-wraps e = reduced e (times (bits_of fa eu) (bits_of fb ev))

    -- s is what wraps back to u when v is added
    pub difference-wraps : s < 2 ^ bits w → (s + v) % 2 ^ bits w ≡ u → to_z w (of_z w r) ≡ wrap w (a -ℤ b)
    difference-wraps h e =
        let back : pos s ≡ pos (s + v) -ℤ pos v = simp differences (dif-eq _ _ _ _ (omega arith)) in
        signed h (then (equal back) (minus (then (inverse (remainder (s + v))) (then (equal (ap pos e)) (bits_of fa eu))) (bits_of fb ev)))

-- ---- a product by halves

-- two numbers of k bits have a product of k + k
pub product-fits : (k : ℕ) {a b : ℕ} → a < 2 ^ k → b < 2 ^ k → a * b < 2 ^ (k + k)
product-fits k {a} {b} ha hb = rw (pow-add 2 k k) (lt_of_le_of_lt (mul-le-mul_left a (le_of_lt hb)) (mul-lt-mul_of_pos_right ha (pow_pos k)))

digits : (a b c d h : ℕ) → (a * h + b) * (c * h + d) ≡ ((b * c + a * d) * h + b * d) + a * c * (h * h)
digits a b c d h = omega arith

-- the product modulo h * h, by the digits of its factors in base h
pub halves : (h x y : ℕ) → 0 < h * h → {cross r : ℕ} → cross ≡ (x % h * (y / h) + x / h * (y % h)) % (h * h) →
    r ≡ ((cross * h) % (h * h) + x % h * (y % h)) % (h * h) → r ≡ (x * y) % (h * h)
unfolding modulo
halves h x y p {cross} {r} ec er =
    let l : ℕ = x % h * (y % h) in
    let whole : x * y ≡ ((x % h * (y / h) + x / h * (y % h)) * h + l) + x / h * (y / h) * (h * h) =
    (λ i. sym (div-add-mod' x h) i * sym (div-add-mod' y h) i) ∙ digits (x / h) (x % h) (y / h) (y % h) h in
    let high : Congruent (h * h) (pos cross) (pos (x % h * (y / h) + x / h * (y % h))) = then (equal (ap pos ec)) (remainder _) in
    let low : Congruent (h * h) (pos ((cross * h) % (h * h) + l)) (pos (x * y)) =
    then (plus (then (remainder (cross * h)) (times high (itself (pos h)))) (itself (pos l))) (inverse (record { multiple = pos (x / h * (y / h)); is = ap pos whole })) in
    modulo-unique p (rw er (mod-lt _ p)) (then (equal (ap pos er)) (then (remainder _) low))

-- ---- `x as i32` of a narrower x, from v to w

module _ (v w : Width) {x : ℤ} (wider : T (leb (hbits v) (hbits w))) (f : SFits v x) where
  pub widens : SFits w (to_z v (of_z v x))
  widens = rw (to_z-of_z v x f) (sfits_widen wider f)

  pub widened : to_z w (of_z w (to_z v (of_z v x))) ≡ x
  widened = to_z-of_z w _ widens ∙ to_z-of_z v x f

  -- what a call that widens x gave
  pub widened-read : {r : ℤ} → r ≡ to_z v (of_z v x) → to_z w (of_z w r) ≡ x
  widened-read e = ap (λ (t : ℤ). to_z w (of_z w t)) e ∙ widened
