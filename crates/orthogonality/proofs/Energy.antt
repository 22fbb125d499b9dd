-- Blocks whose coefficients agree are near: the squares of their differences sum up to no more than those of the divisors.
-- Assumes nothing.
use mathlib.Core.Path.{◌≡◌, sym, ap, ◌∙◌}
use mathlib.Core.List.{List}
use Prim.Native.Nat.{ℕ, ◌+◌, ◌-◌, ◌*◌, ◌/◌, ◌%◌, ◌^◌, ◌≤◌, ◌<◌}
use native.Mathlib.Nat.{le_trans, le_of_eq, mul-le-mul, pow-zero, pow-suc}
use native.Mathlib.Omega.{arith}
use lib.ListN.{get_or}
use lib.IntN.{ℤ, pos, nat_abs, ◌-ℤ◌, ◌*ℤ◌}
use Rattle.integers.proofs.Difference.{dif-eq, by-dif, differences}
use Rattle.quantize.specs.Quantize.{divisor_of, coefficient}
use Rattle.forward.specs.Sum.{total}
use Rattle.forward.specs.Forward.{centred, scaled_sum}
use Rattle.forward.proofs.Sum.{sum-ext, sum-sub, total_ext, total-le, total-term, total-scale, total-const}
use Rattle.orthogonality.specs.Difference.{squared_differences, squared_divisors}
use Rattle.orthogonality.proofs.Orthogonal.{combined, squares-kept}
use Rattle.orthogonality.proofs.Basis.{basis_at, row_sum, nearly-orthogonal}
use Rattle.orthogonality.proofs.Rounding.{coefficient-same}

minus-times : (a b c : ℤ) → a *ℤ c -ℤ b *ℤ c ≡ (a -ℤ b) *ℤ c
minus-times = by-dif _ λ a b. by-dif _ λ c d. by-dif _ λ e f. simp differences (dif-eq _ _ _ _ (omega arith))

square : (n : ℕ) → n ^ 2 ≡ n * n
square n = pow-suc n 1 ∙ ap (λ (k : ℕ). k * n) (pow-suc n 0 ∙ ap (λ (k : ℕ). k * n) (pow-zero n)) ∙ omega arith

-- every place counts
pub place-counts : (a b : List ℕ) (p : ℕ) → p < 64 → nat_abs (pos (get_or a p 0) -ℤ pos (get_or b p 0)) ^ 2 ≤ squared_differences a b
unfolding squared_differences
place-counts a b p h = total-term 64 (λ i. nat_abs (pos (get_or a i 0) -ℤ pos (get_or b i 0)) ^ 2) p h

module _ (centre : ℕ) (a b : List ℕ) where
  abbrev difference : ℕ → ℤ
  difference p = pos (get_or a p 0) -ℤ pos (get_or b p 0)

  -- the centre does not count
  centred-apart : (p : ℕ) → centred centre a (p % 8) (p / 8) -ℤ centred centre b (p % 8) (p / 8) ≡ difference p
  unfolding centred
  centred-apart p = let e : 8 * (p / 8) + p % 8 ≡ p = omega arith in rw e (cancel (pos (get_or a p 0)) (pos (get_or b p 0)) (pos centre))
    where
      cancel : (x y c : ℤ) → (x -ℤ c) -ℤ (y -ℤ c) ≡ x -ℤ y
      cancel = by-dif _ λ a b. by-dif _ λ c d. by-dif _ λ e f. simp differences (dif-eq _ _ _ _ (omega arith))

  sums_apart : (n : ℕ) → scaled_sum centre a n -ℤ scaled_sum centre b n ≡ combined 64 (2 ^ 64) basis_at difference n
  unfolding scaled_sum basis_at
  sums_apart n =
      sum-sub 64 (λ i. centred centre a (i % 8) (i / 8) *ℤ basis_at n i) (λ i. centred centre b (i % 8) (i / 8) *ℤ basis_at n i)
      ∙ sum-ext 64 _ _ (λ i h. minus-times (centred centre a (i % 8) (i / 8)) (centred centre b (i % 8) (i / 8)) (basis_at n i) ∙ ap (λ (z : ℤ). z *ℤ basis_at n i) (centred-apart i))

  module _ (d : ℕ → ℕ) (h : (n : ℕ) → n < 64 → nat_abs (scaled_sum centre a n -ℤ scaled_sum centre b n) ≤ d n * 2 ^ 32) where
    sums-square : total 64 (λ n. nat_abs (combined 64 (2 ^ 64) basis_at difference n) * nat_abs (combined 64 (2 ^ 64) basis_at difference n)) ≤ 2 ^ 64 * total 64 (λ n. d n ^ 2)
    sums-square =
        le_trans (total-le 64 _ _ (λ n l. step (nat_abs (combined 64 (2 ^ 64) basis_at difference n)) (d n) (rw (sums_apart n) at (h n l))))
        (le_of_eq (sym (total-scale (2 ^ 64) 64 (λ n. d n ^ 2))))
      where
        step : (s d : ℕ) → s ≤ d * 2 ^ 32 → s * s ≤ 2 ^ 64 * d ^ 2
        step s d l = omega (arith, mul-le-mul l l, square d)

    -- sums that are within 2^32·d(n) of each other
    pub sums-energy : (2 ^ 64 - 2 ^ 37) * squared_differences a b ≤ 2 ^ 64 * total 64 (λ n. d n ^ 2)
    unfolding squared_differences
    sums-energy =
        let squares : squared_differences a b ≡ total 64 (λ p. nat_abs (difference p) * nat_abs (difference p)) = total_ext 64 _ _ (λ p l. square (nat_abs (difference p))) in
        let whole = squares-kept 64 (2 ^ 64) basis_at difference row_sum nearly-orthogonal in
        omega (arith, sums-square)

    -- both sides are whole, so for divisors of 8 bits the remainder of 2^37 does not count
    pub sums-energy-8bit : ((n : ℕ) → n < 64 → d n ≤ 255) → squared_differences a b ≤ total 64 (λ n. d n ^ 2)
    sums-energy-8bit small =
        let most : total 64 (λ n. d n ^ 2) ≤ 64 * 65025 = le_trans (total-le 64 _ _ (λ n l. step (d n) (small n l))) (le_of_eq (total-const 64 65025)) in
        omega (arith, sums-energy)
      where
        step : (d : ℕ) → d ≤ 255 → d ^ 2 ≤ 65025
        step d l = omega (arith, mul-le-mul l l, square d)

  module _ (quant : List ℕ) (same : (n : ℕ) → n < 64 → coefficient (scaled_sum centre a n) (get_or quant n 0) ≡ coefficient (scaled_sum centre b n) (get_or quant n 0)) where
    abbrev divisors : ℕ → ℕ
    divisors n = divisor_of (get_or quant n 0)

    within : (n : ℕ) → n < 64 → nat_abs (scaled_sum centre a n -ℤ scaled_sum centre b n) ≤ divisors n * 2 ^ 32
    within n l = coefficient-same (scaled_sum centre a n) (scaled_sum centre b n) (get_or quant n 0) (same n l)

    -- quantizers of any size
    pub energy : (2 ^ 64 - 2 ^ 37) * squared_differences a b ≤ 2 ^ 64 * squared_divisors quant
    unfolding squared_divisors
    energy = sums-energy divisors within

    pub energy-23 : (2 ^ 23 - 1) * squared_differences a b ≤ 2 ^ 23 * squared_divisors quant
    energy-23 = omega (arith, energy)

    -- document 01, demand 3: "if all 64 coefficients agree, the sum of (a - b)² over the 64 places is at most the sum of d(n)²"
    pub energy-8bit : ((n : ℕ) → n < 64 → get_or quant n 0 ≤ 255) → squared_differences a b ≤ squared_divisors quant
    unfolding squared_divisors divisor_of
    energy-8bit small = sums-energy-8bit divisors within (λ n l. omega (arith, small n l))
