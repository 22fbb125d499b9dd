-- The reciprocal of 8·AAN_SCALE[u]·AAN_SCALE[v]·quantizer in binary64: one product and one quotient are rounded.
-- Assumes nothing.
use mathlib.Core.Path.{◌≡◌, refl, sym}
use mathlib.Core.Bool.{false}
use Prim.Native.Nat.{ℕ, ◌+◌, ◌*◌, ◌/◌, ◌%◌, ◌^◌, ◌≤◌, ◌<◌, suc, zero-le}
use native.Mathlib.Nat.{le_trans, le_of_eq, lt_of_le_of_lt, lt_of_lt_of_le, mul-le-mul, mul-le-mul_left, mul-le-mul_right, le_of_mul-le-mul_right, le_of_mul-le-mul_left, mul_assoc, one-mul, add-le-add, le_refl}
use native.Mathlib.Omega.{arith}
use lib.Dec.{lit<, lit≤}
use lib.Pow.{pow_pos}
use lib.IntN.{pos, nat_abs, ◌-ℤ◌, ◌*ℤ◌}
use lib.Ieee.{binary64, round, mul, of_int}
use lib.Ieee.Exact.{HasValue}
use lib.Ieee.Back.{round_whole}
use Rattle.integers.proofs.Difference.{distance}
use Rattle.guarded_quantizer.specs.Literals.{decimal}
use Rattle.guarded_quantizer.specs.Divisors.{reciprocal}
use Rattle.guarded_quantizer.proofs.Operations.{Worth, mul-step, div-step, Above, above}
use Rattle.agreement.specs.Budget.{Apart}
use Rattle.agreement.specs.Exact.{one, scale_float}
use Rattle.agreement.proofs.Scale.{scale, scale-value, scale-least, scale-most}
use Rattle.agreement.proofs.Values.{L, rescaled}

-- a: the divisor in units of 2^-54, G: 2^1020, p: the rounded divisor, C: the rounded reciprocal
module _ (C p a G : ℕ) (some : 0 < G) (least : 9 * 2 ^ 50 ≤ a) (half : 2 ^ 53 * G < p) (above-p : p ≤ a * G + 2 ^ 13 * G) (below-p : a * G ≤ p + 2 ^ 13 * G)
    (above-C : p * C ≤ 2 ^ 54 * G * (2 ^ 54 * G) + p * (4 * G)) (below-C : 2 ^ 54 * G * (2 ^ 54 * G) ≤ p * C + p * (4 * G)) where
  most : C ≤ 3 * (2 ^ 54 * G)
  most = le_of_mul-le-mul_left (go (mul-le-mul_right (2 ^ 54 * G) half)) (omega arith)
    where
      go : suc (2 ^ 53 * G) * (2 ^ 54 * G) ≤ p * (2 ^ 54 * G) → p * C ≤ p * (3 * (2 ^ 54 * G))
      go h = omega arith

  upper : C * a ≤ 2 ^ 54 * (2 ^ 54 * G) + (4 * p + 2 ^ 13 * C)
  upper = le_of_mul-le-mul_right (go (mul-le-mul_left C below-p)) some
    where
      go : C * (a * G) ≤ C * (p + 2 ^ 13 * G) → C * a * G ≤ (2 ^ 54 * (2 ^ 54 * G) + (4 * p + 2 ^ 13 * C)) * G
      go h = omega arith

  lower : 2 ^ 54 * (2 ^ 54 * G) ≤ C * a + (4 * p + 2 ^ 13 * C)
  lower = le_of_mul-le-mul_right (go (mul-le-mul_left C above-p)) some
    where
      go : C * p ≤ C * (a * G + 2 ^ 13 * G) → 2 ^ 54 * (2 ^ 54 * G) * G ≤ (C * a + (4 * p + 2 ^ 13 * C)) * G
      go h = omega arith

  small : (4 * p + 2 ^ 13 * C) * 2 ^ 40 ≤ 4 * (2 ^ 54 * G * a)
  small = le_trans (mul-le-mul_right (2 ^ 40) (go most (mul-le-mul_right G least))) (le_of_eq (units a G))
    where
      go : C ≤ 3 * (2 ^ 54 * G) → 9 * 2 ^ 50 * G ≤ a * G → 4 * p + 2 ^ 13 * C ≤ 2 ^ 16 * (a * G)
      go h k = omega arith

      units : (a G : ℕ) → 2 ^ 16 * (a * G) * 2 ^ 40 ≡ 4 * (2 ^ 54 * G * a)
      units a G = omega arith

  apart : Apart (pos C) (2 ^ 54 * G) (pos (2 ^ 54)) a 4
  apart = record { within = go (4 * p + 2 ^ 13 * C) upper lower small }
    where
      go : (e : ℕ) → C * a ≤ 2 ^ 54 * (2 ^ 54 * G) + e → 2 ^ 54 * (2 ^ 54 * G) ≤ C * a + e → e * 2 ^ 40 ≤ 4 * (2 ^ 54 * G * a) → nat_abs (pos C *ℤ pos a -ℤ pos (2 ^ 54) *ℤ pos (2 ^ 54 * G)) * 2 ^ 40 ≤ 4 * (2 ^ 54 * G * a)
      go e x y z = le_trans (mul-le-mul_right (2 ^ 40) (le_trans (le_of_eq (distance (C * a) (2 ^ 54 * (2 ^ 54 * G)))) (omega arith))) z

one-is : HasValue (decimal 1 0) false 1 1
unfolding round decimal
one-is = (refl, refl)

module _ (n q : ℕ) (h : n < 64) (low : 1 ≤ q) (high : q ≤ 255) where
  abbrev G : ℕ
  G = 2 ^ 1020

  divisor-least : 9 * 2 ^ 50 ≤ q * scale n
  divisor-least = le_trans (scale-least n h) (le_trans (le_of_eq (sym (one-mul (scale n)))) (mul-le-mul_right (scale n) low))

  divisor-most : q * scale n ≤ 255 * 2 ^ 58
  divisor-most = mul-le-mul high (scale-most n h)

  scale-worth : Worth (scale_float n) (pos (scale n * G))
  scale-worth = record { sign = false; size = scale n * G; value = rescaled (scale_float n) false (scale n) one G (scale-value n h); is = refl }

  -- 8·AAN_SCALE[u]·AAN_SCALE[v]·q, in units of 2^-1074
  divisor : Above (mul binary64 (scale_float n) (of_int binary64 (pos q))) 1 (q * (scale n * G)) (1 * 2 ^ 1033)
  unfolding of_int
  divisor =
      above (lt_of_lt_of_le (lit< {m = 1 * 2 ^ 1033} {n = 9 * 2 ^ 50 * G} tt) (le_trans (mul-le-mul_right G divisor-least) (le_of_eq (mul_assoc q (scale n) G))))
      (mul-step 1033 (lit≤ tt) (of_int binary64 (pos q)) q 1 (pow_pos 0) (round_whole binary64 false q (le_trans high (lit≤ tt))) scale-worth
      (lt_of_le_of_lt (le_trans (le_of_eq (sym (mul_assoc q (scale n) G))) (mul-le-mul_right G divisor-most)) (lit< {m = 255 * 2 ^ 58 * G} {n = 2 ^ 53 * (1 * 2 ^ 1033)} tt)))

  p-above : divisor.size ≤ q * scale n * G + 2 ^ 13 * G
  p-above = go divisor.size q (scale n) G (1 * 2 ^ 1033) divisor.most
    where
      go : (p q t G Y : ℕ) → 1 * p ≤ q * (t * G) + Y → p ≤ q * t * G + Y
      go p q t G Y b = omega arith

  p-below : q * scale n * G ≤ divisor.size + 2 ^ 13 * G
  p-below = go divisor.size q (scale n) G (1 * 2 ^ 1033) divisor.least
    where
      go : (p q t G Y : ℕ) → q * (t * G) ≤ 1 * p + Y → q * t * G ≤ p + Y
      go p q t G Y b = omega arith

  p-half : 2 ^ 53 * G < divisor.size
  p-half = go G divisor.size (q * scale n) (lit< tt) divisor-least p-below
    where
      go : (G p a : ℕ) → 0 < G → 9 * 2 ^ 50 ≤ a → a * G ≤ p + 2 ^ 13 * G → 2 ^ 53 * G < p
      go G p a o l b = let m = mul-le-mul_right G l in omega arith

  -- its reciprocal
  inverse : Above (reciprocal q (n % 8) (n / 8)) divisor.size (L * L) (divisor.size * 2 ^ 1022)
  unfolding reciprocal
  inverse =
      let p : ℕ = divisor.size in
      above (lt_of_le_of_lt (mul-le-mul_right (2 ^ 1022) (le_trans p-above (add-le-add (mul-le-mul_right G divisor-most) (le_refl (2 ^ 13 * G))))) (lit< {m = (255 * 2 ^ 58 * G + 2 ^ 13 * G) * 2 ^ 1022} {n = L * L} tt))
      (div-step 1022 (lit≤ tt) (decimal 1 0) (mul binary64 (scale_float n) (of_int binary64 (pos q))) p (lt_of_le_of_lt zero-le p-half) one-is divisor.value
      (lt_of_lt_of_le (lit< {m = L * L} {n = 2 ^ 53 * (suc (2 ^ 53 * G) * 2 ^ 1022)} tt) (mul-le-mul_left (2 ^ 53) (mul-le-mul_right (2 ^ 1022) p-half))))

  pub inverse_units : ℕ
  inverse_units = inverse.size

  pub inverse-value : HasValue (reciprocal q (n % 8) (n / 8)) false inverse_units L
  unfolding inverse_units
  inverse-value = inverse.value

  pub inverse-most : inverse_units ≤ 3 * L
  unfolding inverse_units
  inverse-most = most inverse.size divisor.size (q * scale n) G (lit< tt) divisor-least p-half p-above p-below inverse.most inverse.least

  -- 4·2^-40 from 1 / (8·AAN_SCALE[u]·AAN_SCALE[v]·q) at most, with the products of the scales rounded
  pub inverse-apart : Apart (pos inverse_units) L (pos one) (q * scale n) 4
  unfolding inverse_units
  inverse-apart = apart inverse.size divisor.size (q * scale n) G (lit< tt) divisor-least p-half p-above p-below inverse.most inverse.least
