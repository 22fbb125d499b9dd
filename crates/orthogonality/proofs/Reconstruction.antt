-- The transpose of the forward transform gives the samples back: of the sums nearly exactly, and of coefficients times their
-- divisors within half of each divisor times its basis.
-- Assumes nothing.
use mathlib.Core.Path.{◌≡◌, sym, ap, ◌∙◌}
use mathlib.Core.List.{List}
use Prim.Native.Nat.{ℕ, ◌+◌, ◌*◌, ◌/◌, ◌%◌, ◌^◌, ◌≤◌, ◌<◌}
use native.Mathlib.Nat.{le_trans, le_of_eq, mul-le-mul_left}
use native.Mathlib.Omega.{arith}
use lib.ListN.{get_or}
use lib.IntN.{ℤ, pos, nat_abs, ◌-ℤ◌, ◌*ℤ◌}
use Rattle.integers.proofs.Difference.{dif-eq, by-dif, differences}
use Rattle.integers.proofs.Ring.{nat_abs-*}
use Rattle.basis.specs.Basis.{basis}
use Rattle.quantize.specs.Quantize.{divisor_of, coefficient}
use Rattle.forward.specs.Sum.{sum_to, total}
use Rattle.forward.specs.Forward.{centred, scaled_sum}
use Rattle.forward.proofs.Sum.{sum-ext, sum-sub, sum-scale, nat_abs-sum, total-le, total-scale}
use Rattle.orthogonality.proofs.Orthogonal.{transpose-inverts}
use Rattle.orthogonality.proofs.Basis.{basis_at, row_sum, nearly-orthogonal}
use Rattle.orthogonality.proofs.Rounding.{coefficient-nearest}

-- samples up to twice the centre: 128 for 8 bits
pub centred-within : (centre : ℕ) (block : List ℕ) (x y : ℕ) → get_or block (8 * y + x) 0 ≤ 2 * centre → nat_abs (centred centre block x y) ≤ centre
unfolding centred
centred-within centre block x y h = simp differences (omega arith)

-- samples within m of the centre
module _ (centre : ℕ) (block : List ℕ) (m : ℕ) (within : (x y : ℕ) → x < 8 → y < 8 → nat_abs (centred centre block x y) ≤ m) where
  at_place : (p : ℕ) → p < 64 →
      nat_abs (sum_to 64 (λ n. basis n (p % 8) (p / 8) *ℤ scaled_sum centre block n) -ℤ pos (2 ^ 64) *ℤ centred centre block (p % 8) (p / 8)) ≤ m * row_sum
  unfolding scaled_sum basis_at
  at_place p h =
      transpose-inverts 64 (2 ^ 64) basis_at (λ i. centred centre block (i % 8) (i / 8)) row_sum nearly-orthogonal m (λ i l. within (i % 8) (i / 8) (omega arith) (omega arith)) p h

  module _ (x y : ℕ) (hx : x < 8) (hy : y < 8) where
    pub reconstruction : nat_abs (sum_to 64 (λ n. basis n x y *ℤ scaled_sum centre block n) -ℤ pos (2 ^ 64) *ℤ centred centre block x y) ≤ m * 90146332016
    reconstruction =
        let column : (8 * y + x) % 8 ≡ x = omega arith in
        let row : (8 * y + x) / 8 ≡ y = omega arith in
        rw (column, row) at (at_place (8 * y + x) (omega arith))

    module _ (quant : List ℕ) (D : ℕ → ℤ) (dequantized : (n : ℕ) → n < 64 → D n ≡ pos (divisor_of (get_or quant n 0)) *ℤ coefficient (scaled_sum centre block n) (get_or quant n 0)) where
      -- what quantizing changes
      quantizing : nat_abs (pos (2 ^ 32) *ℤ sum_to 64 (λ n. basis n x y *ℤ D n) -ℤ sum_to 64 (λ n. basis n x y *ℤ scaled_sum centre block n)) ≤ 2 ^ 31 * total 64 (λ n. divisor_of (get_or quant n 0) * nat_abs (basis n x y))
      quantizing =
          let S : ℕ → ℤ = scaled_sum centre block in
          let B : ℕ → ℤ = λ n. basis n x y in
          let d : ℕ → ℕ = λ n. divisor_of (get_or quant n 0) in
          let terms : pos (2 ^ 32) *ℤ sum_to 64 (λ n. B n *ℤ D n) -ℤ sum_to 64 (λ n. B n *ℤ S n) ≡ sum_to 64 (λ n. B n *ℤ (pos (2 ^ 32) *ℤ D n -ℤ S n)) =
          ap (λ (z : ℤ). z -ℤ sum_to 64 (λ n. B n *ℤ S n)) (sum-scale (pos (2 ^ 32)) 64 (λ n. B n *ℤ D n))
          ∙ sum-sub 64 (λ n. pos (2 ^ 32) *ℤ (B n *ℤ D n)) (λ n. B n *ℤ S n)
          ∙ sum-ext 64 _ _ (λ n l. gather (pos (2 ^ 32)) (B n) (D n) (S n)) in
          le_trans (le_of_eq (ap nat_abs terms))
          (le_trans (nat_abs-sum 64 (λ n. B n *ℤ (pos (2 ^ 32) *ℤ D n -ℤ S n)))
          (le_trans (total-le 64 _ _ (λ n l. step (nat_abs (B n)) (d n) _ _ (nat_abs-* (B n) (pos (2 ^ 32) *ℤ D n -ℤ S n)) (near n l)))
          (le_of_eq (sym (total-scale (2 ^ 31) 64 (λ n. d n * nat_abs (B n)))))))
        where
          gather : (k b d s : ℤ) → k *ℤ (b *ℤ d) -ℤ b *ℤ s ≡ b *ℤ (k *ℤ d -ℤ s)
          gather = by-dif _ λ a b. by-dif _ λ c d. by-dif _ λ e f. by-dif _ λ g h. simp differences (dif-eq _ _ _ _ (omega arith))

          step : (b d t s : ℕ) → t ≡ b * s → s ≤ d * 2 ^ 31 → t ≤ 2 ^ 31 * (d * b)
          step b d t s e l = omega (arith, mul-le-mul_left b l)

          near : (n : ℕ) → n < 64 → nat_abs (pos (2 ^ 32) *ℤ D n -ℤ scaled_sum centre block n) ≤ divisor_of (get_or quant n 0) * 2 ^ 31
          near n l = rw (dequantized n l) (coefficient-nearest (scaled_sum centre block n) (get_or quant n 0))

      -- the sample against the dequantized coefficients
      pub quantized-reconstruction :
          2 ^ 32 * nat_abs (pos (2 ^ 32) *ℤ centred centre block x y -ℤ sum_to 64 (λ n. basis n x y *ℤ D n)) ≤ m * 90146332016 + 2 ^ 31 * total 64 (λ n. divisor_of (get_or quant n 0) * nat_abs (basis n x y))
      quantized-reconstruction =
          through (centred centre block x y) (sum_to 64 (λ n. basis n x y *ℤ scaled_sum centre block n)) (sum_to 64 (λ n. basis n x y *ℤ D n)) _ _ reconstruction quantizing
        where
          through : (c s t : ℤ) (k l : ℕ) → nat_abs (s -ℤ pos (2 ^ 64) *ℤ c) ≤ k → nat_abs (pos (2 ^ 32) *ℤ t -ℤ s) ≤ l → 2 ^ 32 * nat_abs (pos (2 ^ 32) *ℤ c -ℤ t) ≤ k + l
          through = by-dif _ λ a b. by-dif _ λ c d. by-dif _ λ e f. λ k l g h. let g' = simp differences at g in let h' = simp differences at h in simp differences (omega arith)
