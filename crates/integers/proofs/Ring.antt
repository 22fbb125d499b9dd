-- The ring laws of ℤ that `lib.IntN` lacks, and absolute values. Each is by `omega` on differences; `simp ring` proves an identity of polynomials.
-- Assumes nothing.
use mathlib.Core.Path.{◌≡◌, refl}
use Prim.Native.Nat.{suc, ◌+◌, ◌*◌, ◌≤◌}
use native.Mathlib.Omega.{arith}
use lib.IntN.{ℤ, pos, negsuc, neg_ℤ, ◌+ℤ◌, ◌*ℤ◌, nat_abs, +ℤ_assoc, +ℤ_comm, *ℤ_comm, neg_ℤ-+ℤ}
use Rattle.integers.proofs.Difference.{dif-eq, by-dif, differences}

pub +ℤ-left-comm : (x y z : ℤ) → x +ℤ (y +ℤ z) ≡ y +ℤ (x +ℤ z)
+ℤ-left-comm = by-dif _ λ a b. by-dif _ λ c d. by-dif _ λ e f. simp differences (dif-eq _ _ _ _ (omega arith))

pub *ℤ-+ℤ : (x y z : ℤ) → x *ℤ (y +ℤ z) ≡ x *ℤ y +ℤ x *ℤ z
*ℤ-+ℤ = by-dif _ λ a b. by-dif _ λ c d. by-dif _ λ e f. simp differences (dif-eq _ _ _ _ (omega arith))

pub +ℤ-*ℤ : (x y z : ℤ) → (x +ℤ y) *ℤ z ≡ x *ℤ z +ℤ y *ℤ z
+ℤ-*ℤ = by-dif _ λ a b. by-dif _ λ c d. by-dif _ λ e f. simp differences (dif-eq _ _ _ _ (omega arith))

pub *ℤ-assoc : (x y z : ℤ) → (x *ℤ y) *ℤ z ≡ x *ℤ (y *ℤ z)
*ℤ-assoc = by-dif _ λ a b. by-dif _ λ c d. by-dif _ λ e f. simp differences (dif-eq _ _ _ _ (omega arith))

pub *ℤ-left-comm : (x y z : ℤ) → x *ℤ (y *ℤ z) ≡ y *ℤ (x *ℤ z)
*ℤ-left-comm = by-dif _ λ a b. by-dif _ λ c d. by-dif _ λ e f. simp differences (dif-eq _ _ _ _ (omega arith))

pub negℤ-*ℤ : (x y : ℤ) → neg_ℤ x *ℤ y ≡ neg_ℤ (x *ℤ y)
negℤ-*ℤ = by-dif _ λ a b. by-dif _ λ c d. simp differences (dif-eq _ _ _ _ (omega arith))

pub *ℤ-negℤ : (x y : ℤ) → x *ℤ neg_ℤ y ≡ neg_ℤ (x *ℤ y)
*ℤ-negℤ = by-dif _ λ a b. by-dif _ λ c d. simp differences (dif-eq _ _ _ _ (omega arith))

pub ruleset ring = (*ℤ-+ℤ, +ℤ-*ℤ, *ℤ-assoc, *ℤ_comm, *ℤ-left-comm, +ℤ_assoc, +ℤ_comm, +ℤ-left-comm, negℤ-*ℤ, *ℤ-negℤ, neg_ℤ-+ℤ)

pub nat_abs-+ : (x y : ℤ) → nat_abs (x +ℤ y) ≤ nat_abs x + nat_abs y
nat_abs-+ = by-dif _ λ a b. by-dif _ λ c d. simp differences (omega arith)

pub nat_abs-neg : (x : ℤ) → nat_abs (neg_ℤ x) ≡ nat_abs x
nat_abs-neg = by-dif _ λ a b. simp differences (omega arith)

pub nat_abs-* : (x y : ℤ) → nat_abs (x *ℤ y) ≡ nat_abs x * nat_abs y
nat_abs-* (pos a) (pos b) = refl
nat_abs-* (pos a) (negsuc b) = nat_abs-neg (pos (a * suc b))
nat_abs-* (negsuc a) (pos b) = nat_abs-neg (pos (suc a * b))
nat_abs-* (negsuc a) (negsuc b) = refl
