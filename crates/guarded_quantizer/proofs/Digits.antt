-- The digits of a float by its value.
-- Assumes nothing.
use Rattle.std.specs.Prelude.{◌≡◌, ℕ, ◌+◌, ◌-◌, ◌*◌, ◌^◌, ◌<◌, ◌≤◌, Bool, true, false, T}
use mathlib.Core.Path.{refl, sym, ap, subst, ◌∙◌}
use native.Mathlib.Decide.{dec_lt}
use native.Mathlib.Nat.{le_trans, le_of_eq, lt_irrefl, mul-le-mul_left, lt_of_lt_of_le, lt_of_le_of_lt, mul-le-mul_right, eq_of_mul-eq-mul_right, le-add_right}
use native.Mathlib.Omega.{arith}
use lib.Dec.{lit≤}
use lib.Pow.{pow_mono}
use lib.Ieee.{Float, nan, inf, fin, down, binary64, fits, ne}
use lib.Ieee.Fits.{down_pos}
use lib.Ieee.Exact.{HasValue}
use Rattle.guarded_quantizer.proofs.Fields.{is-nan, weight, negative, exponent, digits, finite, normal, infinite, small}

same-value : (x : Float) (s s' : Bool) (v v' : ℕ) → HasValue x s v (2 ^ 1074) → HasValue x s' v' (2 ^ 1074) → v ≡ v'
same-value nan s s' v v' h k = absurd h
same-value (inf t) s s' v v' h k = absurd h
same-value (fin t m e) s s' v v' h k = eq_of_mul-eq-mul_right (down e) (down_pos e) v v' (sym h.1 ∙ k.1)

-- what holds of no NaN, and of no infinity
pub number : (P : Float → Type 0) → (P nan → ⊥) → (x : Float) → P x → ne x x ≡ false
number P none x h = go (ne x x) refl
  where
    go : (t : Bool) → ne x x ≡ t → t ≡ false
    go true e = absurd (none (subst P (is-nan x e) h))
    go false e = refl

pub finite-field : (P : Float → Type 0) → (P nan → ⊥) → ((t : Bool) → P (inf t) → ⊥) → (x : Float) → T (fits binary64 x) → P x → exponent x < 2047
finite-field P none bounded x F h = go (dec_lt (exponent x) 2047)
  where
    go : Dec (exponent x < 2047) → exponent x < 2047
    go (yes l) = l
    go (no l) = absurd (bounded (negative x) (subst P (infinite x F (number P none x h) (omega arith)) h))

module _ (x : Float) (F : T (fits binary64 x)) (s : Bool) (v : ℕ) (h : HasValue x s v (2 ^ 1074)) where
  pub is_number : ne x x ≡ false
  is_number = number (λ y. HasValue y s v (2 ^ 1074)) (λ z. z) x h

  is_finite : exponent x < 2047
  is_finite = finite-field (λ y. HasValue y s v (2 ^ 1074)) (λ z. z) (λ t z. z) x F h

  -- from 2 ^ 36 to 2 ^ 37
  module _ (least : 2 ^ 1110 ≤ v) (most : v < 2 ^ 1111) where
    field-least : 1059 ≤ exponent x
    field-least = go (dec_lt (exponent x) 1059)
      where
        go : Dec (exponent x < 1059) → 1059 ≤ exponent x
        go (yes l) =
            let e : weight (exponent x) (digits x) ≡ v = same-value x (negative x) s _ v (finite x F is_finite) h in
            absurd (lt_irrefl v (lt_of_lt_of_le (lt_of_le_of_lt (le_of_eq (sym e)) (small x 1058 (omega arith))) least))
        go (no l) = omega arith

    value : (2 ^ 52 + digits x) * 2 ^ (exponent x - 1) ≡ v
    value = same-value x (negative x) s _ v (normal x F (le_trans (lit≤ tt) field-least) is_finite) h

    field-most : exponent x ≤ 1059
    field-most = go (dec_lt 1059 (exponent x))
      where
        go : Dec (1059 < exponent x) → exponent x ≤ 1059
        go (yes l) =
            let m : 1059 ≤ exponent x - 1 = omega arith in
            let big : 2 ^ 52 * 2 ^ 1059 ≤ v = le_trans (mul-le-mul_left (2 ^ 52) (pow_mono m)) (le_trans (mul-le-mul_right (2 ^ (exponent x - 1)) (le-add_right (2 ^ 52) (digits x))) (le_of_eq value)) in
            absurd (lt_irrefl v (lt_of_lt_of_le most big))
        go (no l) = omega arith

    pub digits_value : (2 ^ 52 + digits x) * 2 ^ 1058 ≡ v
    digits_value = let e : exponent x - 1 ≡ 1058 = omega (arith, field-least, field-most) in ap (λ (k : ℕ). (2 ^ 52 + digits x) * 2 ^ k) (sym e) ∙ value
