-- Sums of 16 products of at most 2^46 each, and what the sum of a fold against the basis gives to quantize. Assumes nothing.
use Prim.Native.Nat.{ℕ, suc, ◌+◌, ◌*◌, ◌/◌, ◌%◌, ◌^◌, ◌<◌, ◌≤◌}
use mathlib.Core.Path.{◌≡◌, refl, sym, ap, subst, ◌∙◌}
use mathlib.Core.List.{List}
use native.Mathlib.Omega.{arith}
use lib.ListN.{get_or}
use lib.IntN.{ℤ, pos, nat_abs, ◌+ℤ◌, ◌*ℤ◌}
use mir.Syntax.{w64}
use mir.Val.{SFits, to_z, of_z}
use mir.ValLaws.{to_z-of_z}
use Rattle.integers.proofs.Ring.{nat_abs-+}
use Rattle.integers.proofs.Bound.{small-fits}
use Rattle.basis.specs.Basis.{entry}
use Rattle.forward.specs.Sum.{sum_to}
use Rattle.forward.specs.Parity.{fold_sum}
use Rattle.forward.proofs.Sum.{sum-ext}
use Rattle.forward.proofs.Scaled.{sum-size}

-- after k terms
abbrev pub Summed : (ℕ → ℤ) → ℕ → ℤ → Type 0
Summed g k s = (s ≡ sum_to k g) × (nat_abs s ≤ k * 2 ^ 46)

pub no-terms : (g : ℕ → ℤ) → Summed g 0 (pos 0)
unfolding sum_to
no-terms g = (refl, omega arith)

-- one more term, as a call of `product` gave it
module _ (g : ℕ → ℤ) (k : ℕ) (h : k < 16) (s r : ℤ) (es : Summed g k s) (er : r ≡ g k) (small : nat_abs r ≤ 2 ^ 46) where
  abbrev next : ℤ
  next = s +ℤ to_z w64 (of_z w64 r)

  exact : next ≡ s +ℤ r
  exact = ap (λ (z : ℤ). s +ℤ z) (to_z-of_z w64 r (small-fits w64 r (omega arith)))

  size : nat_abs (s +ℤ r) ≤ (k + 1) * 2 ^ 46
  size = omega (arith, nat_abs-+ s r)

  pub next_fits : SFits w64 next
  next_fits = rw exact (small-fits w64 (s +ℤ r) (omega (arith, size)))

  pub next-term : Summed g (k + 1) (to_z w64 (of_z w64 next))
  unfolding sum_to
  next-term =
      let e : suc k ≡ k + 1 = omega arith in
      let kept = to_z-of_z w64 next next_fits ∙ exact in
      (kept ∙ (λ i. es.0 i +ℤ er i) ∙ ap (λ (j : ℕ). sum_to j g) e, subst (λ (z : ℤ). nat_abs z ≤ (k + 1) * 2 ^ 46) (sym kept) size)

-- the sum of a fold of samples of up to 12 bits against the entries of frequency n
module _ (f : List ℤ) (small : (k : ℕ) → nat_abs (get_or f k (pos 0)) ≤ 2 ^ 13) (n : ℕ) (h : n < 64) where
  pub by_entries : {b : ℕ → ℤ} {r : ℤ} → r ≡ sum_to 16 (λ k. get_or f k (pos 0) *ℤ b k) → ((k : ℕ) → k < 16 → b k ≡ entry n (k / 4) (k % 4)) → r ≡ fold_sum f n
  unfolding fold_sum
  by_entries er eb = er ∙ sum-ext 16 _ _ (λ k l. ap (λ (z : ℤ). get_or f k (pos 0) *ℤ z) (eb k l))

  fold-size : nat_abs (fold_sum f n) ≤ 2 ^ 46
  fold-size = omega (arith, sum-size f (2 ^ 13) small n h)

  pub read-sum : {r : ℤ} → r ≡ fold_sum f n → (to_z w64 (of_z w64 r) ≡ fold_sum f n) × (nat_abs (to_z w64 (of_z w64 r)) ≤ 2 ^ 46)
  read-sum e =
      let z = ap (λ (y : ℤ). to_z w64 (of_z w64 y)) e ∙ to_z-of_z w64 (fold_sum f n) (small-fits w64 _ (omega (arith, fold-size))) in
      (z, subst (λ (y : ℤ). nat_abs y ≤ 2 ^ 46) (sym z) fold-size)
