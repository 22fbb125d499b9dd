-- A float that is less than 2^-19 from S / M, and whose fraction is not less than 2^-19 from one half, rounds as S / M does.
-- Assumes nothing.
use mathlib.Core.Path.{◌≡◌, refl, sym, ap, ◌∙◌, subst}
use mathlib.Core.Logic.{◌⊎◌, inl, inr}
use mathlib.Core.Bool.{Bool, true, false, ◌&&◌}
use Prim.Native.Nat.{ℕ, suc, ◌+◌, ◌-◌, ◌*◌, ◌/◌, ◌%◌, ◌^◌, ◌≤◌, ◌<◌}
use native.Mathlib.Nat.{le_trans, le_of_eq, mul-pos, mod-lt, div-add-mod', div-eq_of_lt-le, suc-mul, mul-le-mul_right, le-pred_of_lt}
use native.Mathlib.Omega.{arith}
use borrow.Author.Tests.{ltb-false}
use lib.Dec.{ltb}
use lib.Pow.{pow_pos}
use lib.IntN.{ℤ, pos, negsuc, nat_abs, ◌-ℤ◌, ◌*ℤ◌}
use lib.Ieee.{Float}
use Rattle.integers.proofs.Difference.{differences, distance}
use Rattle.integers.proofs.Distance.{neg-near}
use Rattle.quantize.specs.Quantize.{rounded, with_sign}
use Rattle.quantize.proofs.Halves.{rounded-half}
use Rattle.guarded_quantizer.specs.Binary64.{around_half, near_half, rounded_to_i16}
use Rattle.guarded_quantizer.proofs.Fraction.{around-same, rounded-same}
use Rattle.guarded_quantizer.proofs.NearHalf.{near-value}
use Rattle.guarded_quantizer.proofs.Rounding.{saturated, rounded-value, below_end, above-end}
use Rattle.guarded_quantizer.proofs.Operations.{value_of, value-times, Worth}
use Rattle.agreement.specs.Budget.{Apart, guard_units}
use Rattle.agreement.proofs.Values.{L}

-- what rounds to w
pub rounded-is : (P U w : ℕ) → 0 < U → w * U * 2 ≤ P * 2 + U → P * 2 + U < w * U * 2 + U * 2 → rounded P U ≡ w
rounded-is P U w p_u a b =
    rounded-same P U (P * 2) (2 * U) p_u (omega arith) (omega arith) ∙ sym (rounded-half (P * 2) U p_u) ∙ div-eq_of_lt-le (2 * U) (omega arith) (omega arith)

-- below or above the middle
clear : (r U : ℕ) → around_half r U ≡ false → (r * 2 ^ 19 ≤ U * (2 ^ 18 - 1)) ⊎ (U * (2 ^ 18 + 1) ≤ r * 2 ^ 19)
unfolding around_half
clear r U h = go (ltb (U * (2 ^ 18 - 1)) (r * 2 ^ 19)) (ltb (r * 2 ^ 19) (U * (2 ^ 18 + 1))) refl refl h
  where
    go : (a b : Bool) → ltb (U * (2 ^ 18 - 1)) (r * 2 ^ 19) ≡ a → ltb (r * 2 ^ 19) (U * (2 ^ 18 + 1)) ≡ b → (a && b) ≡ false → (r * 2 ^ 19 ≤ U * (2 ^ 18 - 1)) ⊎ (U * (2 ^ 18 + 1) ≤ r * 2 ^ 19)
    go true b p q h = inr (ltb-false _ _ (q ∙ h))
    go false b p q h = inl (ltb-false _ _ p)

module _ (U ε : ℕ) (p_u : 0 < U) (small : ε * 2 ^ 19 < U) where
  -- p rounds as P does, ε away
  same-side : (p P : ℕ) → p ≤ P + ε → P ≤ p + ε → around_half (p % U) U ≡ false → rounded p U ≡ rounded P U
  same-side p P a b n = go (p / U) (p % U) (div-add-mod' p U) (mod-lt p p_u) (clear (p % U) U n)
    where
      go : (w r : ℕ) → w * U + r ≡ p → r < U → (r * 2 ^ 19 ≤ U * (2 ^ 18 - 1)) ⊎ (U * (2 ^ 18 + 1) ≤ r * 2 ^ 19) → rounded p U ≡ rounded P U
      go w r e l (inl h) = rounded-is p U w p_u (omega arith) (omega arith) ∙ sym (rounded-is P U w p_u (omega arith) (omega arith))
      go w r e l (inr h) = let s : suc w * U ≡ w * U + U = suc-mul w U in rounded-is p U (suc w) p_u (omega arith) (omega arith) ∙ sym (rounded-is P U (suc w) p_u (omega arith) (omega arith))

  -- too small to be anything but zero
  nothing : (p : ℕ) → p ≤ ε → rounded p U ≡ 0
  nothing p h = rounded-is p U 0 p_u (omega arith) (omega arith)

  -- the same with signs: p and P, in size, are with the signs s and t at most ε apart
  settled : (s t : Bool) (p P : ℕ) → nat_abs (value_of s p -ℤ value_of t P) ≤ ε → around_half (p % U) U ≡ false → rounded P U < 2 ^ 15 → saturated s (rounded p U) ≡ value_of t (rounded P U)
  settled false false p P h n l = ap (saturated false) (same-side p P (omega (arith, distance p P)) (omega (arith, distance p P)) n) ∙ sym (below_end (rounded P U)) ∙ ap pos (omega arith)
  settled true true p P h n l =
      let h' : nat_abs (pos p -ℤ pos P) ≤ ε = le_trans (le_of_eq (sym (neg-near (pos p) (pos P)))) h in
      ap (saturated true) (same-side p P (omega (arith, distance p P)) (omega (arith, distance p P)) n) ∙ sym (above-end (rounded P U) (omega arith))
  settled false true p P h n l = let h' = simp differences at h in ap (saturated false) (nothing p (omega arith)) ∙ sym (below_end 0) ∙ sym (ap (value_of true) (nothing P (omega arith)))
  settled true false p P h n l = let h' = simp differences at h in ap (saturated true) (nothing p (omega arith)) ∙ sym (above-end 0 (omega arith)) ∙ sym (ap (value_of false) (nothing P (omega arith)))

-- over any unit N of the float
module _ (N M e : ℕ) (p_n : 0 < N) (p_m : 0 < M) (less : e < guard_units) where
  tight : (ε : ℕ) → ε * 2 ^ 40 ≤ e * (N * M) → ε * 2 ^ 19 < N * M
  tight ε h = go (N * M) (mul-pos p_n p_m) h
    where
      go : (U : ℕ) → 0 < U → ε * 2 ^ 40 ≤ e * U → ε * 2 ^ 19 < U
      go U p h = let k : e * U ≤ (guard_units - 1) * U = mul-le-mul_right U (le-pred_of_lt less) in omega arith

  signed-guard : (s t : Bool) (a k : ℕ) → Apart (value_of s a) N (value_of t k) M e → around_half (a % N) N ≡ false → rounded k M < 2 ^ 15 → saturated s (rounded a N) ≡ value_of t (rounded k M)
  signed-guard s t a k p n l =
      let U : ℕ = N * M in
      let p_u : 0 < U = mul-pos p_n p_m in
      let ε : ℕ = nat_abs (value_of s a *ℤ pos M -ℤ value_of t k *ℤ pos N) in
      let left : a * U ≡ a * M * N = omega arith in
      let right : k * U ≡ k * N * M = omega arith in
      let same : rounded k M ≡ rounded (k * N) U = rounded-same k M (k * N) U p_m p_u right in
      ap (saturated s) (rounded-same a N (a * M) U p_n p_u left)
      ∙ settled U ε p_u (tight ε p.within) s t (a * M) (k * N) (le_of_eq (sym (ap nat_abs (λ i. value-times s a M i -ℤ value-times t k N i))))
      (sym (around-same a N (a * M) U p_n p_u left) ∙ n) (subst (λ (z : ℕ). z < 2 ^ 15) same l)
      ∙ ap (value_of t) (sym same)

module _ {x : Float} {z : ℤ} (M e : ℕ) (p_m : 0 < M) (less : e < guard_units) (w : Worth x z) (n : near_half x ≡ false) where
  at : (t : Bool) (k : ℕ) → Apart z L (value_of t k) M e → rounded k M < 2 ^ 15 → rounded_to_i16 x ≡ value_of t (rounded k M)
  at t k p l =
      rounded-value x w.sign w.size L (pow_pos 1074) w.value
      ∙ signed-guard L M e (pow_pos 1074) p_m less w.sign t w.size k (subst (λ (y : ℤ). Apart y L (value_of t k) M e) (sym w.is) p)
      (sym (near-value x w.sign w.size L (pow_pos 1074) w.value) ∙ n) l

  pub guard : (S : ℤ) → Apart z L S M e → rounded (nat_abs S) M < 2 ^ 15 → rounded_to_i16 x ≡ with_sign S (rounded (nat_abs S) M)
  unfolding with_sign
  guard (pos k) p l = at false k p l
  guard (negsuc k) p l = at true (suc k) p l
