-- N vectors of N places that are nearly orthogonal: the products of one with all, U taken off its own, have absolute values of at most R
-- together. Then the transpose of the transform by these vectors gives U times the numbers back, within R times the largest of
-- them; and the transform makes the sum of squares U times as large, within R times.
-- Assumes nothing.
use mathlib.Core.Path.{◌≡◌, refl, sym, ap, ap₂, ◌∙◌}
use mathlib.Core.Bool.{Bool, true, false, cond}
use Prim.Native.Nat.{ℕ, suc, ◌+◌, ◌*◌, ◌≤◌, ◌<◌}
use native.Mathlib.Nat.{le_trans, le_of_eq, mul-le-mul_left, mul-le-mul_right}
use native.Mathlib.Omega.{arith}
use borrow.Author.Tests.{eq-eqb, eqb-true}
use lib.Dec.{eqb}
use lib.IntN.{ℤ, pos, negsuc, nat_abs, ◌+ℤ◌, ◌-ℤ◌, ◌*ℤ◌, *ℤ_comm}
use Rattle.integers.proofs.Difference.{dif-ind, dif-eq, dif-inj, by-dif, differences}
use Rattle.integers.proofs.Ring.{*ℤ-left-comm, nat_abs-*}
use Rattle.forward.specs.Sum.{sum_to, total}
use Rattle.forward.proofs.Sum.{sum-ext, sum-add, sum-sub, sum-scale, sum-swap, sum-at, sum-pos, nat_abs-sum, total_ext, total-le, total-add, total-scale, total-swap}

-- ---- numbers

-- 2ab ≤ a² + b²
twice-product : (a b : ℕ) → 2 * (a * b) ≤ a * a + b * b
twice-product = dif-ind (λ a b z. 2 * (a * b) ≤ a * a + b * b) above under
  where
    above : (b k : ℕ) → 2 * ((b + k) * b) ≤ (b + k) * (b + k) + b * b
    above b k = omega arith

    under : (a k : ℕ) → 2 * (a * (a + suc k)) ≤ a * a + (a + suc k) * (a + suc k)
    under a k = omega arith

square-pos : (z : ℤ) → z *ℤ z ≡ pos (nat_abs z * nat_abs z)
square-pos (pos n) = refl
square-pos (negsuc n) = refl

-- a term that may be negative takes away its absolute value at most
take-away : (a b : ℕ) (z : ℤ) → pos a ≡ pos b +ℤ z → b ≤ a + nat_abs z
take-away a b = by-dif _ λ c d. λ h. let k = dif-inj _ _ _ _ (simp differences at h) in simp differences (omega arith)

minus_minus : (a b : ℤ) → a ≡ b +ℤ (a -ℤ b)
minus_minus = by-dif _ λ a b. by-dif _ λ c d. simp differences (dif-eq _ _ _ _ (omega arith))

times-minus : (x a b : ℤ) → x *ℤ (a -ℤ b) ≡ x *ℤ a -ℤ x *ℤ b
times-minus = by-dif _ λ a b. by-dif _ λ c d. by-dif _ λ e f. simp differences (dif-eq _ _ _ _ (omega arith))

times-plus : (u x f : ℤ) → x *ℤ (u *ℤ x +ℤ f) ≡ u *ℤ (x *ℤ x) +ℤ x *ℤ f
times-plus = by-dif _ λ a b. by-dif _ λ c d. by-dif _ λ e f. simp differences (dif-eq _ _ _ _ (omega arith))

-- ---- N vectors: B n p is place n of vector p

module _ (N U : ℕ) (B : ℕ → ℕ → ℤ) where
  -- the product of two vectors, and how far it is from that of orthogonal ones
  abbrev pub gram : ℕ → ℕ → ℤ
  gram p q = sum_to N (λ n. B n p *ℤ B n q)

  abbrev pub gap : ℕ → ℕ → ℤ
  gap p q = gram p q -ℤ cond (eqb p q) (pos U) (pos 0)

  -- the vectors, each times its number, together
  abbrev pub combined : (ℕ → ℤ) → ℕ → ℤ
  combined x n = sum_to N (λ p. x p *ℤ B n p)

  gap-comm : (p q : ℕ) → gap p q ≡ gap q p
  gap-comm p q = λ i. sum-ext N _ _ (λ n b. *ℤ_comm (B n p) (B n q)) i -ℤ cond (eqb_comm (eqb p q) (eqb q p) refl refl i) (pos U) (pos 0)
    where
      eqb_comm : (s t : Bool) → eqb p q ≡ s → eqb q p ≡ t → eqb p q ≡ eqb q p
      eqb_comm true t e f = e ∙ sym (eq-eqb q p (sym (eqb-true p q e)))
      eqb_comm false true e f = eq-eqb p q (sym (eqb-true q p f)) ∙ sym f
      eqb_comm false false e f = e ∙ sym f

  module _ (x : ℕ → ℤ) where
    -- the transpose of the transform is the matrix of products
    transposed : (p : ℕ) → sum_to N (λ n. B n p *ℤ combined x n) ≡ sum_to N (λ q. x q *ℤ gram p q)
    transposed p =
        sum-ext N _ _ (λ n b. sum-scale (B n p) N (λ q. x q *ℤ B n q)) ∙ sum-swap N N (λ n q. B n p *ℤ (x q *ℤ B n q))
        ∙ sum-ext N _ _ (λ q b. sum-ext N _ _ (λ n c. *ℤ-left-comm (B n p) (x q) (B n q)) ∙ sym (sum-scale (x q) N (λ n. B n p *ℤ B n q)))

    -- what it adds to U times the number
    rest : ℕ → ℤ
    rest p = sum_to N (λ q. x q *ℤ gap p q)

    transposed-rest : (p : ℕ) → p < N → sum_to N (λ n. B n p *ℤ combined x n) -ℤ pos U *ℤ x p ≡ rest p
    unfolding rest
    transposed-rest p h =
        ap₂ ◌-ℤ◌ (transposed p) (*ℤ_comm (pos U) (x p) ∙ sym (sum-at N x (pos U) p h))
        ∙ sum-sub N (λ q. x q *ℤ gram p q) (λ q. x q *ℤ cond (eqb p q) (pos U) (pos 0))
        ∙ sum-ext N _ _ (λ q b. sym (times-minus (x q) (gram p q) (cond (eqb p q) (pos U) (pos 0))))

    rest-size : (p : ℕ) → nat_abs (rest p) ≤ total N (λ q. nat_abs (x q) * nat_abs (gap p q))
    unfolding rest
    rest-size p =
        le_trans (nat_abs-sum N (λ q. x q *ℤ gap p q)) (le_of_eq (total_ext N _ _ (λ q b. nat_abs-* (x q) (gap p q))))

    -- the sum of squares by the matrix of products
    squares : pos (total N (λ n. nat_abs (combined x n) * nat_abs (combined x n))) ≡ pos (U * total N (λ p. nat_abs (x p) * nat_abs (x p))) +ℤ sum_to N (λ p. x p *ℤ rest p)
    squares =
        let s : ℕ → ℤ = combined x in
        sym (sum-pos N (λ n. nat_abs (s n) * nat_abs (s n)))
        ∙ sum-ext N _ _ (λ n b. sym (square-pos (s n)) ∙ sum-scale (s n) N (λ p. x p *ℤ B n p))
        ∙ sum-swap N N (λ n p. s n *ℤ (x p *ℤ B n p))
        ∙ sum-ext N _ _ (λ p b.
        sum-ext N _ _ (λ n c. *ℤ-left-comm (s n) (x p) (B n p) ∙ ap (λ (z : ℤ). x p *ℤ z) (*ℤ_comm (s n) (B n p)))
        ∙ sym (sum-scale (x p) N (λ n. B n p *ℤ s n))
        ∙ ap (λ (z : ℤ). x p *ℤ z) (minus_minus _ (pos U *ℤ x p) ∙ ap (λ (z : ℤ). pos U *ℤ x p +ℤ z) (transposed-rest p b))
        ∙ times-plus (pos U) (x p) (rest p))
        ∙ sym (sum-add N (λ p. pos U *ℤ (x p *ℤ x p)) (λ p. x p *ℤ rest p))
        ∙ ap (λ (z : ℤ). z +ℤ sum_to N (λ p. x p *ℤ rest p))
        (sym (sum-scale (pos U) N (λ p. x p *ℤ x p)) ∙ ap (λ (z : ℤ). pos U *ℤ z) (sum-ext N _ _ (λ p b. square-pos (x p)) ∙ sum-pos N (λ p. nat_abs (x p) * nat_abs (x p))))

    module _ (R : ℕ) (near : (p : ℕ) → p < N → total N (λ q. nat_abs (gap p q)) ≤ R) where
      -- numbers of absolute value at most m come back, U times, within m·R
      pub transpose-inverts : (m : ℕ) → ((q : ℕ) → q < N → nat_abs (x q) ≤ m) → (p : ℕ) → p < N → nat_abs (sum_to N (λ n. B n p *ℤ combined x n) -ℤ pos U *ℤ x p) ≤ m * R
      transpose-inverts m h p b =
          le_trans (le_of_eq (ap nat_abs (transposed-rest p b)))
          (le_trans (rest-size p)
          (le_trans (total-le N _ _ (λ q c. mul-le-mul_right (nat_abs (gap p q)) (h q c)))
          (le_trans (le_of_eq (sym (total-scale m N (λ q. nat_abs (gap p q))))) (mul-le-mul_left m (near p b)))))

      abbrev s : ℕ → ℕ
      s p = nat_abs (x p) * nat_abs (x p)

      abbrev g : ℕ → ℕ → ℕ
      g p q = nat_abs (gap p q)

      -- a row's absolute values, each times the square of the row's number; and times the square of the column's
      by_rows : total N (λ p. total N (λ q. s p * g p q)) ≤ R * total N s
      by_rows =
          le_trans (total-le N _ _ (λ p b. le_trans (le_of_eq (sym (total-scale (s p) N (g p)))) (swapped (s p) (near p b))))
          (le_of_eq (sym (total-scale R N s)))
        where
          swapped : (k : ℕ) {t : ℕ} → t ≤ R → k * t ≤ R * k
          swapped k l = omega (arith, mul-le-mul_left k l)

      by-columns : total N (λ p. total N (λ q. s q * g p q)) ≤ R * total N s
      by-columns =
          le_trans (le_of_eq (total-swap N N (λ p q. s q * g p q) ∙ total_ext N _ _ (λ q b. total_ext N _ _ (λ p c. ap (λ (z : ℤ). s q * nat_abs z) (gap-comm p q))))) by_rows

      product-size : (p : ℕ) → 2 * nat_abs (x p *ℤ rest p) ≤ total N (λ q. s p * g p q) + total N (λ q. s q * g p q)
      product-size p =
          let a : ℕ = nat_abs (x p) in
          le_trans (step a _ _ _ (nat_abs-* (x p) (rest p)) (mul-le-mul_left a (rest-size p)))
          (le_trans (le_of_eq (total-scale (2 * a) N (λ q. nat_abs (x q) * g p q)))
          (le_trans (total-le N _ _ (λ q b. both a (nat_abs (x q)) (g p q))) (le_of_eq (sym (total-add N (λ q. s p * g p q) (λ q. s q * g p q))))))
        where
          step : (a m r t : ℕ) → m ≡ a * r → a * r ≤ a * t → 2 * m ≤ 2 * a * t
          step a m r t e l = omega arith

          both : (a b c : ℕ) → 2 * a * (b * c) ≤ a * a * c + b * b * c
          both a b c = omega (arith, mul-le-mul_left c (twice-product a b))

      -- the squares after the transform sum up to U times those before, less R times at most
      pub squares-kept : U * total N (λ p. nat_abs (x p) * nat_abs (x p)) ≤ total N (λ n. nat_abs (combined x n) * nat_abs (combined x n)) + R * total N (λ p. nat_abs (x p) * nat_abs (x p))
      squares-kept =
          let z : ℤ = sum_to N (λ p. x p *ℤ rest p) in
          let t : ℕ = total N (λ p. nat_abs (x p *ℤ rest p)) in
          let two : 2 * t ≤ total N (λ p. total N (λ q. s p * g p q)) + total N (λ p. total N (λ q. s q * g p q)) =
          le_trans (le_of_eq (total-scale 2 N (λ p. nat_abs (x p *ℤ rest p))))
          (le_trans (total-le N _ _ (λ p b. product-size p)) (le_of_eq (sym (total-add N (λ p. total N (λ q. s p * g p q)) (λ p. total N (λ q. s q * g p q)))))) in
          omega (arith, take-away _ _ z squares, nat_abs-sum N (λ p. x p *ℤ rest p), by_rows, by-columns)
