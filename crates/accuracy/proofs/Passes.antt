-- Two passes that round, by their sums alone: what comes out against any sum over 64 numbers that are near the products of the gains.
-- Assumes nothing.
use mathlib.Core.Path.{◌≡◌, sym, ap, ◌∙◌}
use Prim.Native.Nat.{ℕ, ◌+◌, ◌*◌, ◌/◌, ◌%◌, ◌^◌, ◌≤◌, ◌<◌}
use native.Mathlib.Nat.{le_trans, le_of_eq, mul-le-mul_left}
use lib.IntN.{ℤ, pos, nat_abs, ◌-ℤ◌, ◌*ℤ◌, *ℤ_comm}
use Rattle.integers.proofs.Ring.{*ℤ-assoc}
use Rattle.integers.proofs.Distance.{through, times-near}
use Rattle.forward.specs.Sum.{sum_to, total}
use Rattle.forward.proofs.Sum.{sum-ext, sum-scale, sum-swap, sum-block, sums_apart}
use Rattle.forward.proofs.Scaled.{nat_abs-products, sums-near}

-- k·a is near b, n·b near c: so n·k·a is near c
then-near : (n k : ℕ) (a b c : ℤ) {e d : ℕ} → nat_abs (pos k *ℤ a -ℤ b) ≤ e → nat_abs (pos n *ℤ b -ℤ c) ≤ d → nat_abs (pos (n * k) *ℤ a -ℤ c) ≤ n * e + d
then-near n k a b c h l = through (pos (n * k) *ℤ a) (pos n *ℤ b) c (le_trans (le_of_eq (ap (λ (z : ℤ). nat_abs (z -ℤ pos n *ℤ b)) (*ℤ-assoc (pos n) (pos k) a))) (times-near n (pos k *ℤ a) b h)) l

-- f and g: the gains of the column and of the row pass; D: the coefficients
module _ (f g D : ℕ → ℤ) where
  abbrev pub column_sum : ℕ → ℤ
  column_sum u = sum_to 8 (λ k. D (8 * k + u) *ℤ f k)

  abbrev pub product : ℕ → ℤ
  product n = g (n % 8) *ℤ f (n / 8)

  -- the two passes without rounding
  nested : sum_to 8 (λ u. column_sum u *ℤ g u) ≡ sum_to 64 (λ n. product n *ℤ D n)
  nested =
      sum-ext 8 _ _ (λ u h. *ℤ_comm (column_sum u) (g u) ∙ sum-scale (g u) 8 (λ k. D (8 * k + u) *ℤ f k))
      ∙ sum-swap 8 8 (λ u k. g u *ℤ (D (8 * k + u) *ℤ f k))
      ∙ sum-ext 8 _ _ (λ k h. sum-ext 8 _ _ (λ u l. turn (g u) (D (8 * k + u)) (f k)))
      ∙ sum-block (λ u k i. (g u *ℤ f k) *ℤ D i)
    where
      turn : (a b c : ℤ) → a *ℤ (b *ℤ c) ≡ (a *ℤ c) *ℤ b
      turn a b c = ap (λ (z : ℤ). a *ℤ z) (*ℤ_comm b c) ∙ sym (*ℤ-assoc a c b)

  -- c: what the column passes give, v: what the row pass gives of it, both to the nearest; L: the weight of g; B: numbers of which
  -- the products are 8 times less, but for P altogether; M: the largest absolute value of the coefficients
  pub two-passes : (c B : ℕ → ℤ) (v : ℤ) (L P M : ℕ) →
      ((u : ℕ) → u < 8 → nat_abs (pos (2 ^ 11) *ℤ c u -ℤ column_sum u) ≤ 2 ^ 10) →
      nat_abs (pos (2 ^ 18) *ℤ v -ℤ sum_to 8 (λ u. c u *ℤ g u)) ≤ 2 ^ 17 →
      total 8 (λ u. nat_abs (g u)) ≤ L →
      total 64 (λ n. nat_abs (pos 8 *ℤ product n -ℤ B n)) ≤ P →
      ((n : ℕ) → n < 64 → nat_abs (D n) ≤ M) →
      nat_abs (pos (2 ^ 32) *ℤ v -ℤ sum_to 64 (λ n. B n *ℤ D n)) ≤ 8 * (2 ^ 28 + 2 ^ 10 * L) + M * P
  two-passes c B v L P M hc hv h_l h_p h_d =
      let columns : nat_abs (pos (2 ^ 11) *ℤ sum_to 8 (λ u. c u *ℤ g u) -ℤ sum_to 64 (λ n. product n *ℤ D n)) ≤ 2 ^ 10 * L =
      le_trans (le_of_eq (ap (λ (z : ℤ). nat_abs (pos (2 ^ 11) *ℤ sum_to 8 (λ u. c u *ℤ g u) -ℤ z)) (sym nested))) (sums-near 8 (pos (2 ^ 11)) c column_sum g (2 ^ 10) L hc h_l) in
      let table : nat_abs (pos 8 *ℤ sum_to 64 (λ n. product n *ℤ D n) -ℤ sum_to 64 (λ n. B n *ℤ D n)) ≤ M * P =
      le_trans (le_of_eq (ap nat_abs (sums_apart 64 (pos 8) product B D ∙ sum-ext 64 _ _ (λ n h. *ℤ_comm (pos 8 *ℤ product n -ℤ B n) (D n)))))
      (le_trans (nat_abs-products 64 M D (λ n. pos 8 *ℤ product n -ℤ B n) h_d) (mul-le-mul_left M h_p)) in
      then-near 8 _ v (sum_to 64 (λ n. product n *ℤ D n)) (sum_to 64 (λ n. B n *ℤ D n)) (then-near (2 ^ 11) (2 ^ 18) v (sum_to 8 (λ u. c u *ℤ g u)) (sum_to 64 (λ n. product n *ℤ D n)) hv columns) table
