-- The bitmap is read off the AC places: each of its bits, and what one place changes.
-- Assumes nothing.
use Rattle.std.specs.Prelude.{◌≡◌, ℕ, zero, suc, ◌+◌, ◌-◌, ◌*◌, ◌%◌, ◌^◌, ◌<◌, ◌≤◌, Bool, true, false, cond, eqb, List, get_or, ℤ, pos, nat_abs}
use mathlib.Core.Path.{refl, sym, ap, ap₂, subst, ◌∙◌}
use native.Mathlib.Nat.{one-mul, zero-mul, zero-div}
use native.Mathlib.Numerals.{add-one}
use native.Mathlib.Omega.{arith}
use borrow.Author.Tests.{eqb-true, eqb-false, ne_eqb}
use lib.Bits.{bit_and, bit_or, or_zero_r}
use lib.Dec.{lit<}
use lib.Pow.{shl_exact}
use lib.Signed.{mag}
use mir.Syntax.{w16}
use mir.Val.{of_z}
use Rattle.integers.proofs.ZeroTest.{zero_bits}
use Rattle.lists.specs.Tab.{tab}
use Rattle.forward.specs.Sum.{total}
use Rattle.guarded_quantizer.specs.Bitmap.{bit, with_bit, nonzero, bitmap_of}
use Rattle.guarded_quantizer.proofs.Bits.{bit-replaced, bit_kept, replaced-again, replaced-sum, or-bit, and-bit}

cond-lt : (t : Bool) (m n : ℕ) → m < 2 → n < 2 → cond t m n < 2
cond-lt true m n h l = h
cond-lt false m n h l = l

pub nonzero-lt : (x : ℤ) → nonzero x < 2
unfolding nonzero
nonzero-lt x = cond-lt (eqb (nat_abs x) 0) _ _ (lit< tt) (lit< tt)

-- `coefficient == 0`, on its bits
pub bits-nonzero : (x : ℤ) → mag x < 2 ^ 15 → {t : Bool} → eqb (of_z w16 x) 0 ≡ t → cond t 0 1 ≡ nonzero x
unfolding nonzero
bits-nonzero x f e = ap (λ (t : Bool). cond t 0 1) (sym e ∙ zero_bits w16 x f)

-- ---- the sum's bits

-- the sum of the places before z
abbrev pub up_to : (ℕ → ℕ) → ℕ → ℕ
up_to t z = total z (λ i. cond (eqb i 0) 0 (t i * 2 ^ (64 - i)))

module _ (t : ℕ → ℕ) (small : (z : ℕ) → t z < 2) where
  -- after place n
  record Sums (n : ℕ) : Type 0 where
    there : (z : ℕ) → 1 ≤ z → z ≤ n → bit (up_to t (suc n)) (64 - z) ≡ t z
    rest : (k : ℕ) → k + n < 64 → bit (up_to t (suc n)) k ≡ 0

  -- the next place
  step : (n : ℕ) → suc n < 64 → Sums n → up_to t (suc (suc n)) ≡ with_bit (up_to t (suc n)) (64 - suc n) (t (suc n))
  unfolding total
  step n h s =
      let added = ap (λ (c : Bool). up_to t (suc n) + cond c 0 (t (suc n) * 2 ^ (64 - suc n))) (ne_eqb (suc n) 0 (λ i. omega arith)) in
      added ∙ sym (replaced-sum (up_to t (suc n)) (64 - suc n) (t (suc n)) (s.rest (64 - suc n) (omega arith)))

  one_more : (n : ℕ) → suc n < 64 → Sums n → Sums (suc n)
  one_more n h s = record { there = there; rest = rest }
    where
      b : ℕ
      b = up_to t (suc n)

      k₁ : ℕ
      k₁ = 64 - suc n

      there : (z : ℕ) → 1 ≤ z → z ≤ suc n → bit (up_to t (suc (suc n))) (64 - z) ≡ t z
      there z a l = ap (λ (x : ℕ). bit x (64 - z)) (step n h s) ∙ at (eqb z (suc n)) refl
        where
          at : (c : Bool) → eqb z (suc n) ≡ c → bit (with_bit b k₁ (t (suc n))) (64 - z) ≡ t z
          at true q = let i : z ≡ suc n = eqb-true z (suc n) q in rw i (bit-replaced b k₁ (t (suc n)) (small (suc n)))
          at false q =
              let i : z ≡ suc n → ⊥ = eqb-false z (suc n) q in
              bit_kept b k₁ (t (suc n)) (64 - z) (small (suc n)) (λ j. i (omega arith)) ∙ s.there z a (omega (arith, i))

      rest : (k : ℕ) → k + suc n < 64 → bit (up_to t (suc (suc n))) k ≡ 0
      rest k a = ap (λ (x : ℕ). bit x k) (step n h s) ∙ bit_kept b k₁ (t (suc n)) k (small (suc n)) (λ q. omega arith) ∙ s.rest k (omega arith)

  bit-zero : (k : ℕ) → bit 0 k ≡ 0
  unfolding bit
  bit-zero k = ap (λ (x : ℕ). x % 2) (zero-div (2 ^ k))

  sums : (n : ℕ) → n < 64 → Sums n
  unfolding total
  sums zero h = record { there = λ z a b. absurd (omega arith); rest = λ k a. bit-zero k }
  sums (suc n) h = one_more n h (sums n (omega arith))

-- ---- the bits of a bitmap

module _ (ac : List ℤ) where
  places-sums : Sums (λ z. nonzero (get_or ac z (pos 0))) (λ z. nonzero-lt (get_or ac z (pos 0))) 63
  places-sums = sums _ _ 63 (omega arith)

  -- document 01: bit 64 - z is 1 exactly where place z is nonzero, z from 1 to 63
  pub bitmap-bit : (z : ℕ) → 1 ≤ z → z < 64 → bit (bitmap_of ac) (64 - z) ≡ nonzero (get_or ac z (pos 0))
  unfolding bitmap_of
  bitmap-bit z a b = places-sums.there z a (omega arith)

  -- and no place has bit 0
  pub bitmap-low : bit (bitmap_of ac) 0 ≡ 0
  unfolding bitmap_of
  bitmap-low = places-sums.rest 0 (omega arith)

-- no place nonzero
pub bitmap-zeros : bitmap_of (tab 64 (λ _. pos 0)) ≡ 0
unfolding tab total nonzero bitmap_of
bitmap-zeros = refl

-- ---- the masks of `update_nonzero_ac`

-- `(b & !(1 << k)) | (t << k)`, k from 1 to 63
module _ (b k t : ℕ) (B : b < 2 ^ 64) (h : k < 64) (small : t < 2) where
  shifted : t * 2 ^ k % 2 ^ 64 ≡ t * 2 ^ k
  shifted = shl_exact {a = t} 1 k 64 small (omega arith)

  mask : 1 * 2 ^ k % 2 ^ 64 ≡ 2 ^ k
  mask = shl_exact {a = 1} 1 k 64 (lit< tt) (omega arith) ∙ one-mul (2 ^ k)

  cleared : bit_and b ((2 ^ 64 - 1) - 1 * 2 ^ k % 2 ^ 64) ≡ with_bit b k 0
  cleared =
      let e : suc (63 - k) + k ≡ 64 = omega arith in
      ap (λ (m : ℕ). bit_and b ((2 ^ 64 - 1) - m)) mask ∙ subst (λ (w : ℕ). b < 2 ^ w → bit_and b ((2 ^ w - 1) - 2 ^ k) ≡ with_bit b k 0) e (and-bit b (63 - k) k) B

  set : (t : ℕ) → t < 2 → bit_or (with_bit b k 0) (t * 2 ^ k) ≡ with_bit b k t
  set zero l = ap (bit_or (with_bit b k 0)) (zero-mul (2 ^ k)) ∙ or_zero_r (with_bit b k 0)
  set (suc zero) l = ap (bit_or (with_bit b k 0)) (one-mul (2 ^ k)) ∙ or-bit (with_bit b k 0) k ∙ replaced-again b k 0 1 (lit< tt)
  set (suc (suc t)) l = absurd (omega arith)

  pub update-bit : bit_or (bit_and b ((2 ^ 64 - 1) - 1 * 2 ^ k % 2 ^ 64)) (t * 2 ^ k % 2 ^ 64) ≡ with_bit b k t
  update-bit = ap₂ bit_or cleared shifted ∙ set t small

-- ---- the updates in turn

abbrev pub bit_at : List ℤ → ℕ → ℕ
bit_at ac z = nonzero (get_or ac z (pos 0))

-- the bitmap of the places before z, with the bit of place z
pub update-next : (ac : List ℤ) (z b : ℕ) → 1 ≤ z → z < 64 → b ≡ up_to (bit_at ac) z → with_bit b (64 - z) (bit_at ac z) ≡ up_to (bit_at ac) (z + 1)
update-next ac zero b a h e = absurd (omega arith)
update-next ac (suc n) b a h e =
    ap (λ (c : ℕ). with_bit c (64 - suc n) (bit_at ac (suc n))) e ∙ sym (step (bit_at ac) (λ i. nonzero-lt (get_or ac i (pos 0))) n h (sums (bit_at ac) (λ i. nonzero-lt (get_or ac i (pos 0))) n (omega arith)))
    ∙ ap (up_to (bit_at ac)) (sym (add-one (suc n)))
