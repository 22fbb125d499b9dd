-- How large a fold and its sum are, over the largest sample; how far two sums of products are apart.
-- Assumes nothing.
use mathlib.Core.Path.{◌≡◌, refl, sym, ap}
use mathlib.Core.Bool.{Bool, true, false}
use mathlib.Core.List.{List}
use Prim.Native.Nat.{ℕ, ◌+◌, ◌-◌, ◌*◌, ◌/◌, ◌%◌, ◌^◌, ◌<◌, ◌≤◌, zero-le}
use native.Mathlib.Nat.{le_trans, le_of_eq, mul-le-mul_left, mul-le-mul_right}
use native.Mathlib.Omega.{arith}
use lib.Dec.{leb, leb→le}
use lib.ListN.{get_or}
use lib.IntN.{ℤ, pos, nat_abs, ◌+ℤ◌, ◌-ℤ◌, ◌*ℤ◌}
use Rattle.integers.proofs.Ring.{nat_abs-+, nat_abs-*, nat_abs-neg}
use Rattle.lists.proofs.Tab.{get_d-every}
use Rattle.lists.specs.Below.{below}
use Rattle.lists.proofs.Below.{below_at}
use Rattle.basis.specs.Cosine.{cosines}
use Rattle.basis.specs.Basis.{signed, negated, reduced, factor, cosine_of, entry}
use Rattle.forward.specs.Sum.{sum_to, total}
use Rattle.forward.specs.Forward.{centred_sum}
use Rattle.forward.specs.Parity.{mirror_signed, folded, folded_quadrant, fold_sum}
use Rattle.forward.proofs.Sum.{sums_apart, nat_abs-sum, total-le, total-scale}
use Rattle.forward.proofs.Folding.{fold-sum}

-- a sum of products whose first factors are at most B
pub nat_abs-products : (n B : ℕ) (f g : ℕ → ℤ) → ((k : ℕ) → k < n → nat_abs (f k) ≤ B) → nat_abs (sum_to n (λ k. f k *ℤ g k)) ≤ B * total n (λ k. nat_abs (g k))
nat_abs-products n B f g h =
    le_trans (nat_abs-sum n (λ k. f k *ℤ g k))
    (le_trans (total-le n _ _ (λ k b. omega (arith, nat_abs-* (f k) (g k), mul-le-mul_right (nat_abs (g k)) (h k b)))) (le_of_eq (sym (total-scale B n (λ k. nat_abs (g k))))))

-- sums with the same factors d, W in weight, of numbers a and b, where k·a is within e of b
pub sums-near : (m : ℕ) (k : ℤ) (a b d : ℕ → ℤ) (e W : ℕ) → ((i : ℕ) → i < m → nat_abs (k *ℤ a i -ℤ b i) ≤ e) → total m (λ i. nat_abs (d i)) ≤ W →
    nat_abs (k *ℤ sum_to m (λ i. a i *ℤ d i) -ℤ sum_to m (λ i. b i *ℤ d i)) ≤ e * W
sums-near m k a b d e W h w = le_trans (le_of_eq (ap nat_abs (sums_apart m k a b d))) (le_trans (nat_abs-products m e (λ i. k *ℤ a i -ℤ b i) d h) (mul-le-mul_left e w))

-- the 16 entries of each frequency, computed
entries-small : (n : ℕ) → n < 64 → total 16 (λ k. nat_abs (entry n (k / 4) (k % 4))) ≤ 2 ^ 33
unfolding below total entry signed negated reduced factor cosine_of cosines
entries-small n h = leb→le _ _ (below_at 64 (λ m. leb (total 16 (λ k. nat_abs (entry m (k / 4) (k % 4)))) (2 ^ 33)) tt n h)

signed-size : (t : Bool) (z : ℤ) → nat_abs (signed t z) ≡ nat_abs z
unfolding signed
signed-size true z = nat_abs-neg z
signed-size false z = refl

-- four numbers of at most m
four-size : (p q r w : ℤ) (m : ℕ) → nat_abs p ≤ m → nat_abs q ≤ m → nat_abs r ≤ m → nat_abs w ≤ m → nat_abs (p +ℤ q +ℤ r +ℤ w) ≤ 4 * m
four-size p q r w m hp hq hr hw = omega (arith, nat_abs-+ (p +ℤ q +ℤ r) w, nat_abs-+ (p +ℤ q) r, nat_abs-+ p q)

-- S, by a fold of numbers of at most B
pub sum-size : (f : List ℤ) (B : ℕ) → ((k : ℕ) → nat_abs (get_or f k (pos 0)) ≤ B) → (n : ℕ) → n < 64 → nat_abs (fold_sum f n) ≤ B * 2 ^ 33
unfolding fold_sum
sum-size f B small n h =
    le_trans (nat_abs-products 16 B (λ k. get_or f k (pos 0)) (λ k. entry n (k / 4) (k % 4)) (λ k b. small k)) (mul-le-mul_left B (entries-small n h))

module _ (c : List ℤ) (m : ℕ) (small : (i : ℕ) → nat_abs (get_or c i (pos 0)) ≤ m) where
  mirrored-size : (u v x y : ℕ) → nat_abs (mirror_signed c u v x y) ≤ m
  unfolding mirror_signed
  mirrored-size u v x y = rw (signed-size, signed-size) (small (8 * y + x))

  folded-size : (u v x y : ℕ) → nat_abs (folded c u v x y) ≤ 4 * m
  unfolding folded
  folded-size u v x y =
      let size = mirrored-size u v in
      four-size (mirror_signed c u v x y) (mirror_signed c u v (7 - x) y) (mirror_signed c u v x (7 - y)) (mirror_signed c u v (7 - x) (7 - y)) m
      (size x y) (size (7 - x) y) (size x (7 - y)) (size (7 - x) (7 - y))

  pub fold-size : (u v k : ℕ) → nat_abs (get_or (folded_quadrant c u v) k (pos 0)) ≤ 4 * m
  unfolding folded_quadrant
  fold-size u v k = get_d-every (λ (z : ℤ). nat_abs z ≤ 4 * m) 16 (λ j. folded c u v (j % 4) (j / 4)) (pos 0) zero-le (λ j b. folded-size u v (j % 4) (j / 4)) k

  -- S is at most 2^35 times the largest sample: 2^42 for 8 bits, 2^46 for 12
  pub scaled-size : (n : ℕ) → n < 64 → nat_abs (centred_sum c n) ≤ m * 2 ^ 35
  scaled-size n h =
      rw (fold-sum c n) (omega (arith, sum-size (folded_quadrant c (n % 8) (n / 8)) (4 * m) (fold-size (n % 8) (n / 8)) n h))
