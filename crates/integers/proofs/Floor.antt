-- What `floor_div` is: z is that many times m, and a remainder from 0 to m - 1; and the only such number.
-- Assumes nothing.
use mathlib.Core.Path.{◌≡◌, sym, ap, ◌∙◌}
use Prim.Native.Nat.{ℕ, suc, ◌-◌, ◌*◌, ◌/◌, ◌%◌, ◌<◌, ◌≤◌}
use native.Mathlib.Nat.{mod-lt, div-add-mod', div-eq_of_lt, mul-add-div_right, div-eq_of_lt-le, mul-lt-mul_of_pos_left}
use native.Mathlib.Omega.{arith}
use lib.IntN.{ℤ, pos, negsuc, nat_abs, ◌+ℤ◌, ◌-ℤ◌, ◌*ℤ◌}
use Rattle.integers.specs.Wrap.{modulo}
use Rattle.integers.specs.Floor.{floor_div}
use Rattle.integers.proofs.Difference.{dif, dif-eq, dif-inj, negsuc-dif, by-dif, differences}
use Rattle.integers.proofs.Congruence.{modulo-lt}

pub floor-div : (z : ℤ) (m : ℕ) → 0 < m → (z ≡ floor_div z m *ℤ pos m +ℤ pos (modulo m z)) × (modulo m z < m)
unfolding modulo
floor-div (pos a) m h = (ap pos (sym (div-add-mod' a m)), mod-lt a h)
floor-div (negsuc a) m h =
    let d = div-add-mod' a m in
    let l : a % m < m = mod-lt a h in
    let e : dif 0 (suc a) ≡ negsuc (a / m) *ℤ pos m +ℤ pos (m - suc (a % m)) = simp differences (dif-eq _ _ _ _ (omega arith)) in
    (negsuc-dif a ∙ e, modulo-lt h (negsuc a))

pub floor-unique : (q : ℤ) {m r : ℕ} → r < m → floor_div (q *ℤ pos m +ℤ pos r) m ≡ q
floor-unique (pos k) {m} {r} h =
    let e : r / m ≡ 0 = div-eq_of_lt h in
    ap pos (mul-add-div_right (omega arith) k r ∙ omega arith)
floor-unique (negsuc k) {m} {r} h =
    let e : negsuc k *ℤ pos m +ℤ pos r ≡ negsuc (suc k * m - suc r) = simp differences (dif-eq _ _ _ _ (omega arith)) in
    ap (λ (z : ℤ). floor_div z m) e ∙ ap negsuc (div-eq_of_lt-le m (omega arith) (omega arith))

-- a factor of both
pub floor-cancel : (z : ℤ) (m k : ℕ) → 0 < m → 0 < k → floor_div (pos k *ℤ z) (k * m) ≡ floor_div z m
floor-cancel z m k h l =
    let d = floor-div z m h in
    ap (λ (t : ℤ). floor_div (pos k *ℤ t) (k * m)) d.0 ∙ ap (λ (t : ℤ). floor_div t (k * m)) (spread (floor_div z m) m (modulo m z) k) ∙ floor-unique (floor_div z m) (mul-lt-mul_of_pos_left d.1 l)
  where
    spread : (q : ℤ) (m r k : ℕ) → pos k *ℤ (q *ℤ pos m +ℤ pos r) ≡ q *ℤ pos (k * m) +ℤ pos (k * r)
    spread = by-dif _ λ a b. λ m r k. simp differences (dif-eq _ _ _ _ (omega arith))

-- after half of the divisor is added, the nearest
pub floor-nearest : (z : ℤ) (h : ℕ) → 0 < h → nat_abs (pos (2 * h) *ℤ floor_div (z +ℤ pos h) (2 * h) -ℤ z) ≤ h
floor-nearest z h l = let d = floor-div (z +ℤ pos h) (2 * h) (omega arith) in gap z (floor_div (z +ℤ pos h) (2 * h)) h _ d.0 d.1
  where
    gap : (z q : ℤ) (h r : ℕ) → z +ℤ pos h ≡ q *ℤ pos (2 * h) +ℤ pos r → r < 2 * h → nat_abs (pos (2 * h) *ℤ q -ℤ z) ≤ h
    gap = by-dif _ λ a b. by-dif _ λ c d. λ h r e l. let i = dif-inj _ _ _ _ (simp differences at e) in simp differences (omega arith)
