-- One bit of a number: read, replaced, and what masks do to it.
-- Assumes nothing.
use Rattle.std.specs.Prelude.{◌≡◌, ℕ, suc, ◌+◌, ◌-◌, ◌*◌, ◌/◌, ◌%◌, ◌^◌, ◌<◌, min, max}
use mathlib.Core.Path.{sym, ap, ap₂, subst, ◌∙◌}
use native.Mathlib.Nat.{mod-lt, mod-eq_of_lt, add-zero, add-mul, one-mul, pow-suc, min-zero}
use native.Mathlib.Decide.{dec_lt}
use native.Mathlib.Omega.{arith}
use lib.Bits.{bit_and, bit_or, and_block, or_block, and_step, or_step, or_zero_r, and_mask}
use lib.Pow.{pow_pos, split, high, low, field, mod-mod-pow, shr-shr, shr_lt, ones_split, ones_lt}
use Rattle.guarded_quantizer.specs.Bitmap.{bit, with_bit}

-- ---- a bit read

pub bit-lt : (b k : ℕ) → bit b k < 2
unfolding bit
bit-lt b k = omega arith

-- a bit below k lies in the k lowest bits
pub bit-mod : (b j k : ℕ) → j < k → bit (b % 2 ^ k) j ≡ bit b j
unfolding bit
bit-mod b j k h =
    let e : (k - suc j) + (1 + j) ≡ k = omega arith in
    let cut : b % 2 ^ k % 2 ^ (1 + j) ≡ b % 2 ^ (1 + j) = subst (λ (i : ℕ). b % 2 ^ i % 2 ^ (1 + j) ≡ b % 2 ^ (1 + j)) e (mod-mod-pow b (k - suc j) (1 + j)) in
    sym (field (b % 2 ^ k) 1 j) ∙ ap (λ (x : ℕ). x / 2 ^ j) cut ∙ field b 1 j

-- a bit above k lies in the rest
pub bit-shr : (b j k : ℕ) → bit (b / 2 ^ k) j ≡ bit b (k + j)
unfolding bit
bit-shr b j k = ap (λ (x : ℕ). x % 2) (shr-shr b k j)

-- ---- a bit replaced

with-same : (b c k t : ℕ) → b / 2 ^ k / 2 ≡ c / 2 ^ k / 2 → b % 2 ^ k ≡ c % 2 ^ k → with_bit b k t ≡ with_bit c k t
unfolding with_bit
with-same b c k t e h = λ i. (e i * 2 + t) * 2 ^ k + h i

module _ (b k t : ℕ) where
  rest-low : with_bit b k t % 2 ^ k ≡ b % 2 ^ k
  unfolding with_bit
  rest-low = low (b / 2 ^ k / 2 * 2 + t) k (mod-lt b (pow_pos k))

  from-bit : with_bit b k t / 2 ^ k ≡ b / 2 ^ k / 2 * 2 + t
  unfolding with_bit
  from-bit = high (b / 2 ^ k / 2 * 2 + t) k (mod-lt b (pow_pos k))

  pub bit-replaced : t < 2 → bit (with_bit b k t) k ≡ t
  unfolding bit
  bit-replaced h = ap (λ (x : ℕ). x % 2) from-bit ∙ (omega arith)

  pub bit_kept : (j : ℕ) → t < 2 → (j ≡ k → ⊥) → bit (with_bit b k t) j ≡ bit b j
  bit_kept j h o = go (dec_lt j k)
    where
      above : with_bit b k t / 2 ^ (k + 1) ≡ b / 2 ^ (k + 1)
      above =
          let e : (b / 2 ^ k / 2 * 2 + t) / 2 ≡ b / 2 ^ k / 2 = omega arith in
          sym (shr-shr (with_bit b k t) k 1) ∙ ap (λ (x : ℕ). x / 2) from-bit ∙ e ∙ shr-shr b k 1

      go : Dec (j < k) → bit (with_bit b k t) j ≡ bit b j
      go (yes l) = sym (bit-mod (with_bit b k t) j k l) ∙ ap (λ (x : ℕ). bit x j) rest-low ∙ bit-mod b j k l
      go (no l) =
          let e : (k + 1) + (j - (k + 1)) ≡ j = omega arith in
          subst (λ (i : ℕ). bit (with_bit b k t) i ≡ bit b i) e
          (sym (bit-shr (with_bit b k t) (j - (k + 1)) (k + 1)) ∙ ap (λ (x : ℕ). bit x (j - (k + 1))) above ∙ bit-shr b (j - (k + 1)) (k + 1))

  -- replaced twice
  pub replaced-again : (u : ℕ) → t < 2 → with_bit (with_bit b k t) k u ≡ with_bit b k u
  replaced-again u h =
      let e : (b / 2 ^ k / 2 * 2 + t) / 2 ≡ b / 2 ^ k / 2 = omega arith in
      go (ap (λ (x : ℕ). x / 2) from-bit ∙ e)
    where
      go : with_bit b k t / 2 ^ k / 2 ≡ b / 2 ^ k / 2 → with_bit (with_bit b k t) k u ≡ with_bit b k u
      go e = with-same (with_bit b k t) b k u e rest-low

-- where the bit is 0, t times its weight is added
pub replaced-sum : (b k t : ℕ) → bit b k ≡ 0 → with_bit b k t ≡ b + t * 2 ^ k
unfolding bit with_bit
replaced-sum b k t h = go (b / 2 ^ k) (b % 2 ^ k) (2 ^ k) (split b k) h
  where
    go : (q r m : ℕ) → q * m + r ≡ b → q % 2 ≡ 0 → (q / 2 * 2 + t) * m + r ≡ b + t * m
    go q r m e z = let i : q / 2 * 2 ≡ q = omega arith in rw i (omega (arith, add-mul q t m, e))

-- ---- masks

-- `b | (1 << k)`
pub or-bit : (b k : ℕ) → bit_or b (2 ^ k) ≡ with_bit b k 1
unfolding with_bit
or-bit b k =
    ap₂ bit_or (sym (split b k)) (sym (add-zero (1 * 2 ^ k) ∙ one-mul (2 ^ k))) ∙ or_block k q 1 (b % 2 ^ k) 0 (mod-lt b (pow_pos k)) (pow_pos k)
    ∙ ap₂ (λ (x y : ℕ). x * 2 ^ k + y) set (or_zero_r (b % 2 ^ k))
  where
    q : ℕ
    q = b / 2 ^ k

    set : bit_or q 1 ≡ q / 2 * 2 + 1
    set = let e : max (q % 2) 1 ≡ 1 = omega arith in or_step q 1 ∙ ap₂ (λ (x y : ℕ). x * 2 + y) (or_zero_r (q / 2)) e

-- `!(1 << k)`, of 1 + j + k bits
clear-mask : (j k : ℕ) → (2 ^ (suc j + k) - 1) - 2 ^ k ≡ (2 ^ j - 1) * 2 * 2 ^ k + (2 ^ k - 1)
clear-mask j k = ap (λ (x : ℕ). x - 2 ^ k) (ones_split (suc j) k ∙ ap (λ (x : ℕ). (x - 1) * 2 ^ k + (2 ^ k - 1)) (pow-suc 2 j)) ∙ go (2 ^ j) (2 ^ k) (pow_pos j) (pow_pos k)
  where
    go : (p m : ℕ) → 0 < p → 0 < m → ((p * 2 - 1) * m + (m - 1)) - m ≡ (p - 1) * 2 * m + (m - 1)
    go p m hp hm =
        let e : p * 2 - 1 ≡ (p - 1) * 2 + 1 = omega arith in
        rw e (omega (arith, add-mul ((p - 1) * 2) 1 m))

-- `b & !(1 << k)`
pub and-bit : (b j k : ℕ) → b < 2 ^ (suc j + k) → bit_and b ((2 ^ (suc j + k) - 1) - 2 ^ k) ≡ with_bit b k 0
unfolding with_bit
and-bit b j k h =
    ap₂ bit_and (sym (split b k)) (clear-mask j k) ∙ and_block k q ((2 ^ j - 1) * 2) (b % 2 ^ k) (2 ^ k - 1) (mod-lt b (pow_pos k)) (ones_lt k)
    ∙ ap₂ (λ (x y : ℕ). x * 2 ^ k + y) (cleared ∙ sym (add-zero (q / 2 * 2))) (and_mask (b % 2 ^ k) k ∙ mod-eq_of_lt (mod-lt b (pow_pos k)))
  where
    q : ℕ
    q = b / 2 ^ k

    small : q / 2 < 2 ^ j
    small = let l : q < 2 ^ suc j = shr_lt (suc j) k h in let e : 2 ^ suc j ≡ 2 ^ j * 2 = pow-suc 2 j in omega arith

    cleared : bit_and q ((2 ^ j - 1) * 2) ≡ q / 2 * 2
    cleared =
        let even : (2 ^ j - 1) * 2 % 2 ≡ 0 = omega arith in
        let half : (2 ^ j - 1) * 2 / 2 ≡ 2 ^ j - 1 = omega arith in
        and_step q ((2 ^ j - 1) * 2) ∙ ap₂ (λ (x y : ℕ). bit_and (q / 2) x * 2 + min (q % 2) y) half even
        ∙ ap₂ (λ (x y : ℕ). x * 2 + y) (and_mask (q / 2) j ∙ mod-eq_of_lt small) (min-zero (q % 2)) ∙ add-zero (q / 2 * 2)
