-- Rounding by a sum. Where q is smaller than 32767 in absolute value, q + 2 ^ 36 + 32768.5 lies between 2 ^ 36 and 2 ^ 37, where floats are 2 ^ -16
-- apart: the lower 52 bits of the sum are q + 32768.5 in units of 2 ^ -16, at most one unit off. So their part above 2 ^ 16, less 32768, is q
-- rounded, and q is no nearer than 2 ^ -16 to a half, unless the rest is within a unit of an end.
-- Assumes nothing.
use Rattle.std.specs.Prelude.{◌≡◌, ℕ, ◌+◌, ◌-◌, ◌*◌, ◌/◌, ◌%◌, ◌^◌, ◌<◌, ◌≤◌, min, Bool, true, false, not, ◌&&◌, T, leb, ℤ, pos, negsuc, ◌+ℤ◌, ◌-ℤ◌, neg_ℤ, nat_abs}
use mathlib.Core.Path.{refl, sym, ap, subst, ◌∙◌}
use mathlib.Core.Bool.{true≢false}
use native.Mathlib.Nat.{le_of_eq, le_of_lt, one-mul, lt_of_lt_of_le, lt_of_le_of_lt, mul_right_comm, mul-lt-mul_of_pos_right, lt_of_mul-lt-mul_right}
use native.Mathlib.Omega.{arith}
use borrow.Author.Tests.{ltb-true, leb-true}
use lib.Dec.{lit≤}
use lib.IntN.{pos-+ℤ-pos}
use lib.Pow.{pow_pos}
use lib.Ieee.{Float, nan, inf, fin, up, down, binary64, fits, is_nan, neg, lt, of_bits, add}
use lib.Ieee.Fits.{add-fits}
use lib.Ieee.Exact.{HasValue}
use Rattle.integers.proofs.Difference.{differences, dif-eq}
use Rattle.guarded_quantizer.specs.Binary64.{near_half, rounded_to_i16}
use Rattle.guarded_quantizer.proofs.Fields.{no_nan, weight, negative, exponent, digits, finite}
use Rattle.guarded_quantizer.proofs.NearHalf.{near-value}
use Rattle.guarded_quantizer.proofs.Rounding.{saturated, rounded-value, below_end, above-end}
use Rattle.guarded_quantizer.proofs.Operations.{value_of, Worth, Rounded, add_step, above}
use Rattle.guarded_quantizer.proofs.Clear.{settled_up, settled-down}
use Rattle.guarded_quantizer.proofs.Digits.{finite-field, is_number, digits_value}

abbrev addend : Float
addend = fin false (2 ^ 37 + 65537) (negsuc 0)

-- in units of 2 ^ -1074
abbrev b : ℕ
b = (2 ^ 52 + 2 ^ 31 + 2 ^ 15) * 2 ^ 1058

-- smaller than 32767 in absolute value
abbrev Below : Float → Type 0
Below q = (lt (fin true 32767 (pos 0)) q ≡ true) × (lt q (fin false 32767 (pos 0)) ≡ true)

no-nan-below : Below nan → ⊥
unfolding lt
no-nan-below h = true≢false (sym h.0)

no-infinity : (t : Bool) → Below (inf t) → ⊥
unfolding lt
no-infinity true h = true≢false (sym h.0)
no-infinity false h = true≢false (sym h.1)

below-size : (x : Float) (s : Bool) (a : ℕ) → HasValue x s a (2 ^ 1074) → Below x → a < 32767 * 2 ^ 1074
unfolding lt
below-size nan s a h l = absurd h
below-size (inf t) s a h l = absurd h
below-size (fin t m e) s a h l =
    lt_of_mul-lt-mul_right (down e)
    (lt_of_le_of_lt (le_of_eq (sym h.1)) (lt_of_lt_of_le (mul-lt-mul_of_pos_right (go t l) (pow_pos 1074)) (le_of_eq (mul_right_comm 32767 (down e) (2 ^ 1074)))))
  where
    go : (t : Bool) → Below (fin t m e) → m * up e < 32767 * down e
    go true k = omega (arith, ltb-true (m * up e * 1) (32767 * 1 * down e) k.0)
    go false k = omega (arith, ltb-true (m * up e * 1) (32767 * 1 * down e) k.1)

-- a with the sign s, added to a larger number
abbrev plus : Bool → ℕ → ℕ → ℕ
plus false a b = a + b
plus true a b = b - a

plus-is : (s : Bool) (a b : ℕ) → a ≤ b → value_of s a +ℤ pos b ≡ pos (plus s a b)
plus-is false a b h = pos-+ℤ-pos a b
plus-is true a b h = simp differences (dif-eq _ _ _ _ (omega arith))

-- in units of g
module _ (g a v : ℕ) (l : a < 32767 * (65536 * g)) where
  abbrev c : ℕ
  c = (2 ^ 52 + 2 ^ 31 + 2 ^ 15) * g

  some : (s : Bool) → 0 < g → g < plus s a c
  some false p = omega arith
  some true p = omega arith

  below : (s : Bool) → 0 < g → plus s a c < 2 ^ 53 * g
  below false p = omega arith
  below true p = omega arith

  least : (s : Bool) → 0 < g → plus s a c ≤ v + g → 2 ^ 52 * g ≤ v
  least false p h = omega arith
  least true p h = omega arith

  most : (s : Bool) → 0 < g → v ≤ plus s a c + g → v < 2 ^ 52 * g + 2 ^ 32 * g
  most false p h = omega arith
  most true p h = omega arith

  module _ (t : ℕ) (e : (2 ^ 52 + t) * g ≡ v) where
    digits_up : v ≤ a + c + g → a + c ≤ v + g → ((2 ^ 31 + 2 ^ 15) * g + a ≤ t * g + g) × (t * g ≤ (2 ^ 31 + 2 ^ 15) * g + a + g)
    digits_up h k = omega arith

    digits-down : v ≤ c - a + g → c - a ≤ v + g → ((2 ^ 31 + 2 ^ 15) * g ≤ t * g + a + g) × (t * g + a ≤ (2 ^ 31 + 2 ^ 15) * g + g)
    digits-down h k = omega arith

    digits-most : 0 < g → v < 2 ^ 52 * g + 2 ^ 32 * g → t < 2 ^ 32
    digits-most p h = lt_of_mul-lt-mul_right g (omega arith)

-- the sum and the exact one are at most 2 ^ 1058 units apart
near-sum : (x : Float) (s : Bool) (a : ℕ) → HasValue x s a (2 ^ 1074) → a < 32767 * 2 ^ 1074 →
    (v : ℕ) × HasValue (add binary64 x addend) false v (2 ^ 1074) × (v ≤ plus s a b + 2 ^ 1058) × (plus s a b ≤ v + 2 ^ 1058)
near-sum x s a h l =
    let exact = plus-is s a b (le_of_lt (lt_of_lt_of_le l (lit≤ tt))) in
    let size : nat_abs (value_of s a +ℤ pos b) < 2 ^ 53 * (1 * 2 ^ 1058) = subst (λ (z : ℤ). nat_abs z < 2 ^ 53 * (1 * 2 ^ 1058)) (sym exact) (below (2 ^ 1058) a 0 l s (pow_pos 1058)) in
    let first : Worth x (value_of s a) = record { sign = s; size = a; value = h; is = refl } in
    let second : Worth addend (pos b) = record { sign = false; size = b; value = (refl, refl); is = refl } in
    let sum = add_step 1058 (lit≤ tt) first second size in
    let v = above (some (2 ^ 1058) a 0 l s (pow_pos 1058)) (subst (λ (z : ℤ). Rounded (add binary64 x addend) z 1 1058) exact sum) in
    (v.size, v.value, subst (λ (k : ℕ). k ≤ plus s a b + 2 ^ 1058) (one-mul v.size) v.most, subst (λ (k : ℕ). plus s a b ≤ k + 2 ^ 1058) (one-mul v.size) v.least)

difference-up : (w n k : ℕ) → w ≡ n + k → pos n ≡ pos w -ℤ pos k
difference-up w n k e = simp differences (dif-eq _ _ _ _ (omega arith))

difference-down : (w n k : ℕ) → n + w ≡ k → neg_ℤ (pos n) ≡ pos w -ℤ pos k
difference-down w n k e = simp differences (dif-eq _ _ _ _ (omega arith))

module _ (q : Float) (F : T (fits binary64 q)) (B : Below q) where
  abbrev s : Bool
  s = negative q

  abbrev size : ℕ
  size = weight (exponent q) (digits q)

  q-value : HasValue q s size (2 ^ 1074)
  q-value = finite q F (finite-field Below no-nan-below no-infinity q F B)

  q-size : size < 32767 * 2 ^ 1074
  q-size = below-size q s size q-value B

  abbrev sum : Float
  sum = add binary64 q addend

  abbrev v : ℕ
  v = (near-sum q s size q-value q-size).0

  sum-value : HasValue sum false v (2 ^ 1074)
  sum-value = (near-sum q s size q-value q-size).1

  abbrev point : ℕ
  point = digits sum

  v-least : 2 ^ 1110 ≤ v
  v-least = least (2 ^ 1058) size v q-size s (pow_pos 1058) (near-sum q s size q-value q-size).3

  v-most : v < 2 ^ 52 * 2 ^ 1058 + 2 ^ 32 * 2 ^ 1058
  v-most = most (2 ^ 1058) size v q-size s (pow_pos 1058) (near-sum q s size q-value q-size).2

  point-value : (2 ^ 52 + point) * 2 ^ 1058 ≡ v
  point-value = digits_value sum (add-fits binary64 q addend) false v sum-value v-least (lt_of_lt_of_le v-most (lit≤ tt))

  sum_number : T (not (is_nan sum))
  sum_number = no_nan sum (is_number sum (add-fits binary64 q addend) false v sum-value)

  point-most : point < 2 ^ 32
  point-most = digits-most (2 ^ 1058) size v q-size point point-value (pow_pos 1058) v-most

  abbrev whole : ℤ
  whole = pos (point / 65536) -ℤ pos 32768

  -- where the rest of the digits is not at an end, q is not near a half, and is rounded to their upper part
  module _ (above : 2 ≤ point % 65536) (under : point % 65536 ≤ 65534) where
    finish : (t : Bool) → HasValue q t size (2 ^ 1074) → v ≤ plus t size b + 2 ^ 1058 → plus t size b ≤ v + 2 ^ 1058 → (near_half q ≡ false) × (rounded_to_i16 q ≡ whole)
    finish false h k l =
        let d = digits_up (2 ^ 1058) size v q-size point point-value k l in
        let n = settled_up (2 ^ 1058) (pow_pos 1058) size point above under d.0 d.1 in
        let e : min n.0 32767 ≡ n.0 = omega (arith, n.1, point-most) in
        let f : pos n.0 ≡ whole = difference-up (point / 65536) n.0 32768 n.1 in (
          near-value q false size (2 ^ 1074) (pow_pos 1074) h ∙ n.2.1,
          rounded-value q false size (2 ^ 1074) (pow_pos 1074) h ∙ ap (saturated false) n.2.0 ∙ sym (below_end n.0) ∙ ap pos e ∙ f,
        )
    finish true h k l =
        let d = digits-down (2 ^ 1058) size v q-size point point-value k l in
        let n = settled-down (2 ^ 1058) (pow_pos 1058) size point above under d.0 d.1 in
        let f : neg_ℤ (pos n.0) ≡ whole = difference-down (point / 65536) n.0 32768 n.1 in (
          near-value q true size (2 ^ 1074) (pow_pos 1074) h ∙ n.2.1,
          rounded-value q true size (2 ^ 1074) (pow_pos 1074) h ∙ ap (saturated true) n.2.0 ∙ sym (above-end n.0 (omega (arith, n.1))) ∙ f,
        )

    settled : (near_half q ≡ false) × (rounded_to_i16 q ≡ whole)
    settled = finish s q-value (near-sum q s size q-value q-size).2 (near-sum q s size q-value q-size).3

-- ---- as the code has them
both : (x y : Bool) → (x && y) ≡ true → (x ≡ true) × (y ≡ true)
both true y h = (refl, h)
both false y h = absurd (true≢false (sym h))

module _ (q : Float) (F : T (fits binary64 q)) (h : (lt (neg (of_bits binary64 0x40df_ffc0_0000_0000)) q && lt q (of_bits binary64 0x40df_ffc0_0000_0000)) ≡ true) where
  in-range : Below q
  unfolding neg of_bits
  in-range = both (lt (fin true 32767 (pos 0)) q) (lt q (fin false 32767 (pos 0))) h

  abbrev pub rounding : Float
  rounding = add binary64 q (of_bits binary64 0x4230_0000_8000_8000)

  pub rounding-number : T (not (is_nan rounding))
  unfolding of_bits
  rounding-number = sum_number q F in-range

  pub whole-part-most : digits rounding / 65536 < 65536
  unfolding of_bits
  whole-part-most = omega (arith, point-most q F in-range)

  pub settled-point : (leb 2 (digits rounding % 65536) && leb (digits rounding % 65536) 65534) ≡ true → (near_half q ≡ false) × (rounded_to_i16 q ≡ pos (digits rounding / 65536) -ℤ pos 32768)
  unfolding of_bits
  settled-point e =
      let ends = both (leb 2 (digits rounding % 65536)) (leb (digits rounding % 65536) 65534) e in
      settled q F in-range (leb-true 2 (digits rounding % 65536) ends.0) (leb-true (digits rounding % 65536) 65534 ends.1)
