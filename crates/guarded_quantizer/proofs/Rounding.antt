-- `rounded_to_i16` by the exponent field of q. Below 1022 q is less than 1/2, above 1037 it is 2 ^ 15 at least, and between the code's n
-- is its absolute value, rounded.
-- Assumes nothing.
use Rattle.std.specs.Prelude.{◌≡◌, ℕ, suc, ◌+◌, ◌-◌, ◌*◌, ◌/◌, ◌^◌, ◌<◌, ◌≤◌, min, Bool, true, false, T, ℤ, pos, negsuc, ◌-ℤ◌, neg_ℤ}
use mathlib.Core.Path.{refl, sym, ap, ◌∙◌, subst}
use native.Mathlib.Decide.{dec_lt}
use native.Mathlib.Nat.{le_trans, le-add_right, mul-one, mul-pos, lt_of_lt_of_le, mul-le-mul_left, mul-le-mul_right, mul-lt-mul_of_pos_right, div-div-eq-div-mul, add-div_right, le-div_iff_mul-le}
use native.Mathlib.Omega.{arith}
use lib.Pow.{pow-add, pow_pos, pow_mono, shr_lt}
use lib.Ieee.{Float, nan, inf, fin, up, down, binary64, fits, ne, to_signed}
use lib.Ieee.Casts.{to_signed_in}
use lib.Ieee.Fits.{down_pos}
use lib.Ieee.Exact.{HasValue}
use mir.Syntax.{w16}
use mir.Val.{SFits, to_z, of_z}
use mir.ValLaws.{to_z_pos}
use Rattle.integers.proofs.Word.{flipped}
use Rattle.quantize.specs.Quantize.{rounded}
use Rattle.quantize.proofs.Halves.{rounded-half}
use Rattle.quantize.proofs.Zero.{below_half}
use Rattle.guarded_quantizer.specs.Binary64.{to_nearest, rounded_to_i16}
use Rattle.guarded_quantizer.proofs.Fraction.{rounded-same}
use Rattle.guarded_quantizer.proofs.Fields.{is-nan, shifts, weight, negative, exponent, digits, finite, normal, infinite, small}

-- n with the sign s, `as i16`
abbrev pub saturated : Bool → ℕ → ℤ
saturated s n = to_signed 15 (fin s n (pos 0))

-- at any fraction that v equals
pub rounded-value : (v : Float) (s : Bool) (a c : ℕ) → 0 < c → HasValue v s a c → rounded_to_i16 v ≡ saturated s (rounded a c)
unfolding to_nearest rounded_to_i16
rounded-value nan s a c C h = absurd h
rounded-value (inf t) s a c C h = absurd h
rounded-value (fin t m e) s a c C h = λ i. saturated (h.0 i) (rounded-same (m * up e) (down e) a c (down_pos e) C h.1 i)

-- every result is an i16
pub rounded-fits : (q : Float) → SFits w16 (rounded_to_i16 q)
unfolding rounded_to_i16
rounded-fits q = record { sfits = to_signed_in 15 (to_nearest q) }

pub fitting : {r : ℤ} (q : Float) → r ≡ rounded_to_i16 q → (r ≡ rounded_to_i16 q) × SFits w16 r
fitting q e = (e, subst (SFits w16) (sym e) (rounded-fits q))

-- ---- `rounded`
at_least : (n a c : ℕ) → 0 < c → n * c ≤ a → n ≤ rounded a c
unfolding rounded
at_least n a c C h = omega (arith, (le-div_iff_mul-le C).1 h)

-- by halves: G is half of the divisor
by-halves : (d G : ℕ) → 0 < G → rounded d (2 * G) ≡ (d / G + 1) / 2
by-halves d G p =
    sym (rounded-half d G p) ∙ ap (λ (m : ℕ). (d + G) / m) (omega arith) ∙ sym (div-div-eq-div-mul (d + G) G 2) ∙ ap (λ (m : ℕ). m / 2) (add-div_right d p)

-- ---- `saturated`
zero-either : (s : Bool) → pos 0 ≡ saturated s 0
unfolding to_signed
zero-either true = refl
zero-either false = refl

beyond : (s : Bool) (n : ℕ) → 2 ^ 15 ≤ n → saturated s n ≡ to_signed 15 (inf s)
unfolding to_signed
beyond true n h = let e : min (n * 1 / 1) (2 ^ 15) ≡ 2 ^ 15 = omega arith in ap (λ (k : ℕ). neg_ℤ (pos k)) e
beyond false n h = let e : min (n * 1 / 1) (2 ^ 15 - 1) ≡ 2 ^ 15 - 1 = omega arith in ap pos e

pub below_end : (n : ℕ) → pos (min n (2 ^ 15 - 1)) ≡ saturated false n
unfolding to_signed
below_end n = let e : min n (2 ^ 15 - 1) ≡ min (n * 1 / 1) (2 ^ 15 - 1) = omega arith in ap pos e

pub above-end : (n : ℕ) → n ≤ 2 ^ 15 → neg_ℤ (pos n) ≡ saturated true n
unfolding to_signed
above-end n h = let e : n ≡ min (n * 1 / 1) (2 ^ 15) = omega arith in ap (λ (k : ℕ). neg_ℤ (pos k)) e

-- ---- as the code has them
pub nan-to-zero : (q : Float) → ne q q ≡ true → pos 0 ≡ rounded_to_i16 q
unfolding to_nearest rounded_to_i16 to_signed
nan-to-zero q h = rw (is-nan q h)

module _ (q : Float) (F : T (fits binary64 q)) where
  pub small-to-zero : exponent q < 1022 → pos 0 ≡ rounded_to_i16 q
  small-to-zero h =
      let a : ℕ = weight (exponent q) (digits q) in
      let none : rounded a (2 ^ 1074) ≡ 0 = below_half a (2 ^ 1074) (mul-lt-mul_of_pos_right (small q 1021 (omega arith)) (pow_pos 1)) in
      zero-either (negative q) ∙ sym (rounded-value q (negative q) a (2 ^ 1074) (pow_pos 1074) (finite q F (omega arith)) ∙ ap (saturated (negative q)) none)

  saturates : ne q q ≡ false → 1037 < exponent q → to_signed 15 (inf (negative q)) ≡ rounded_to_i16 q
  unfolding to_nearest rounded_to_i16
  saturates n h = go (dec_lt (exponent q) 2047)
    where
      a : ℕ
      a = (2 ^ 52 + digits q) * 2 ^ (exponent q - 1)

      go : Dec (exponent q < 2047) → to_signed 15 (inf (negative q)) ≡ rounded_to_i16 q
      go (yes l) =
          let m : 1037 ≤ exponent q - 1 = omega arith in
          let e : 2 ^ 52 * 2 ^ 1037 ≤ a = le_trans (mul-le-mul_left (2 ^ 52) (pow_mono m)) (mul-le-mul_right (2 ^ (exponent q - 1)) (le-add_right (2 ^ 52) (digits q))) in
          sym (rounded-value q (negative q) a (2 ^ 1074) (pow_pos 1074) (normal q F (omega arith) l) ∙ beyond (negative q) _ (at_least (2 ^ 15) a (2 ^ 1074) (pow_pos 1074) e))
      go (no l) = ap rounded_to_i16 (sym (infinite q F n (omega arith)))

  pub highest : ne q q ≡ false → 1037 < exponent q → negative q ≡ false → pos 32767 ≡ rounded_to_i16 q
  unfolding to_signed
  highest n h e = ap (λ (t : Bool). to_signed 15 (inf t)) (sym e) ∙ saturates n h

  pub lowest : ne q q ≡ false → 1037 < exponent q → negative q ≡ true → neg_ℤ (pos 32768) ≡ rounded_to_i16 q
  unfolding to_signed
  lowest n h e = ap (λ (t : Bool). to_signed 15 (inf t)) (sym e) ∙ saturates n h

-- ---- from 1/2 to 2 ^ 15
pub record Middle (q : Float) : Type 0 where
  pub held : T (fits binary64 q)
  pub low : 1022 ≤ exponent q
  pub high : exponent q ≤ 1037

-- the whole part of twice the absolute value
abbrev pub twice : Float → ℕ
twice q = (2 ^ 52 + digits q) / 2 ^ (1074 - exponent q)

-- the code's n
abbrev pub count : Float → ℕ
count q = (twice q + 1) / 2

module _ {q : Float} (M : Middle q) where
  pub twice_most : twice q < 2 ^ 16
  twice_most =
      let l : 2 ^ 52 + digits q < 2 ^ 53 = omega arith in
      let m : 53 ≤ 16 + (1074 - exponent q) = omega arith in
      shr_lt 16 (1074 - exponent q) (lt_of_lt_of_le l (pow_mono m))

  twice-least : 1 ≤ twice q
  twice-least = let l : 1074 - exponent q ≤ 52 = omega arith in (le-div_iff_mul-le (pow_pos (1074 - exponent q))).1 (omega (arith, pow_mono l))

  pub count-least : 1 ≤ count q
  count-least = omega (arith, twice-least)

  pub one_less : SFits w16 (pos (count q - 1))
  one_less = record { sfits = omega (arith, twice_most) }

  counted : saturated (negative q) (count q) ≡ rounded_to_i16 q
  counted =
      let d : ℕ = 2 ^ 52 + digits q in
      let a : ℕ = d * 2 ^ (exponent q - 1) in
      let g : ℕ = 1074 - exponent q in
      let e : a * (2 * 2 ^ g) ≡ d * 2 ^ 1074 = ap (λ (p : ℕ). a * p) (sym (pow-add 2 1 g)) ∙ shifts d (exponent q - 1) (1 + g) 0 1074 (omega arith) ∙ ap (λ (m : ℕ). m * 2 ^ 1074) (mul-one d) in
      sym (rounded-value q (negative q) a (2 ^ 1074) (pow_pos 1074) (normal q M.held (omega arith) (omega arith))
      ∙ ap (saturated (negative q)) (rounded-same a (2 ^ 1074) d (2 * 2 ^ g) (pow_pos 1074) (mul-pos (pow_pos 1) (pow_pos g)) e ∙ by-halves d (2 ^ g) (pow_pos g)))

  -- the code's `capped`
  pub counts : {m : ℕ} → m ≡ min (count q) 32767 → negative q ≡ false → to_z w16 m ≡ rounded_to_i16 q
  counts {m} e s = to_z_pos w16 m (omega arith) ∙ ap pos e ∙ below_end (count q) ∙ ap (λ (t : Bool). saturated t (count q)) (sym s) ∙ counted

  pub counts-down : negative q ≡ true → to_z w16 (of_z w16 (negsuc 0 -ℤ to_z w16 (count q - 1))) ≡ rounded_to_i16 q
  counts-down s =
      let m : suc (count q - 1) ≡ count q = omega (arith, twice-least) in
      flipped w16 one_less ∙ ap (λ (n : ℕ). neg_ℤ (pos n)) m ∙ above-end (count q) (omega (arith, twice_most)) ∙ ap (λ (t : Bool). saturated t (count q)) (sym s) ∙ counted
