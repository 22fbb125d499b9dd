-- Absolute values of differences: near numbers through a third one, times a number, added, negated.
-- Assumes nothing.
use mathlib.Core.Path.{◌≡◌, ap, ◌∙◌}
use Prim.Native.Nat.{ℕ, ◌+◌, ◌*◌, ◌≤◌}
use native.Mathlib.Nat.{le_trans, le_of_eq, mul-le-mul_left}
use native.Mathlib.Omega.{arith}
use lib.IntN.{ℤ, pos, neg_ℤ, nat_abs, ◌+ℤ◌, ◌-ℤ◌, ◌*ℤ◌}
use Rattle.integers.proofs.Difference.{dif-eq, by-dif, differences}
use Rattle.integers.proofs.Ring.{nat_abs-*}

pub through : (x y z : ℤ) {e d : ℕ} → nat_abs (x -ℤ y) ≤ e → nat_abs (y -ℤ z) ≤ d → nat_abs (x -ℤ z) ≤ e + d
through x y z h k = omega (arith, go x y z)
  where
    go : (x y z : ℤ) → nat_abs (x -ℤ z) ≤ nat_abs (x -ℤ y) + nat_abs (y -ℤ z)
    go = by-dif _ λ a b. by-dif _ λ c d. by-dif _ λ e f. simp differences (omega arith)

pub times-minus : (c : ℕ) (x y : ℤ) → pos c *ℤ x -ℤ pos c *ℤ y ≡ pos c *ℤ (x -ℤ y)
times-minus c = by-dif _ λ a b. by-dif _ λ c d. simp differences (dif-eq _ _ _ _ (omega arith))

-- both times c
pub times-near : (c : ℕ) (x y : ℤ) {e : ℕ} → nat_abs (x -ℤ y) ≤ e → nat_abs (pos c *ℤ x -ℤ pos c *ℤ y) ≤ c * e
times-near c x y h = le_trans (le_of_eq (ap nat_abs (times-minus c x y) ∙ nat_abs-* (pos c) (x -ℤ y))) (mul-le-mul_left c h)

pub sum_near : (x y x' y' : ℤ) {e d : ℕ} → nat_abs (x -ℤ y) ≤ e → nat_abs (x' -ℤ y') ≤ d → nat_abs ((x +ℤ x') -ℤ (y +ℤ y')) ≤ e + d
sum_near x y x' y' h k = omega (arith, go x y x' y')
  where
    go : (x y x' y' : ℤ) → nat_abs ((x +ℤ x') -ℤ (y +ℤ y')) ≤ nat_abs (x -ℤ y) + nat_abs (x' -ℤ y')
    go = by-dif _ λ a b. by-dif _ λ c d. by-dif _ λ e f. by-dif _ λ g h. simp differences (omega arith)

pub neg-near : (x y : ℤ) → nat_abs (neg_ℤ x -ℤ neg_ℤ y) ≡ nat_abs (x -ℤ y)
neg-near = by-dif _ λ a b. by-dif _ λ c d. simp differences (omega arith)

pub distance-sym : (x y : ℤ) → nat_abs (x -ℤ y) ≡ nat_abs (y -ℤ x)
distance-sym = by-dif _ λ a b. by-dif _ λ c d. simp differences (omega arith)

pub size-near : (x y : ℤ) → nat_abs x ≤ nat_abs (x -ℤ y) + nat_abs y
size-near = by-dif _ λ a b. by-dif _ λ c d. simp differences (omega arith)
