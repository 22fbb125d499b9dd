-- A coefficient times its divisor is within half a divisor of the sum that it came from.
-- Assumes nothing.
use mathlib.Core.Path.{◌≡◌, refl, sym}
use mathlib.Core.Bool.{Bool, true, false, cond}
use Prim.Native.Nat.{ℕ, ◌+◌, ◌*◌, ◌/◌, ◌%◌, ◌^◌, ◌≤◌, ◌<◌}
use native.Mathlib.Nat.{div-add-mod', mod-lt}
use native.Mathlib.Omega.{arith}
use borrow.Author.Tests.{leb-true, leb-false}
use lib.Dec.{leb}
use lib.IntN.{ℤ, pos, negsuc, nat_abs, ◌-ℤ◌, ◌*ℤ◌}
use Rattle.integers.proofs.Difference.{by-dif, differences}
use Rattle.quantize.specs.Quantize.{divisor_of, rounded, with_sign, coefficient}

-- k·m is within half of m of a
pub record Nearest (a m k : ℕ) : Type 0 where
  pub below : 2 * (k * m) ≤ 2 * a + m
  pub above : 2 * a ≤ 2 * (k * m) + m

rounded-nearest : (a m : ℕ) → 0 < m → Nearest a m (rounded a m)
unfolding rounded
rounded-nearest a m p = go (leb m (2 * (a % m))) refl
  where
    go : (t : Bool) → leb m (2 * (a % m)) ≡ t → Nearest a m (a / m + cond t 1 0)
    go true e =
        let l : m ≤ 2 * (a % m) = leb-true m (2 * (a % m)) e in
        record { below = omega (arith, div-add-mod' a m, mod-lt a p); above = omega (arith, div-add-mod' a m, mod-lt a p) }
    go false e =
        let l : 2 * (a % m) < m = leb-false m (2 * (a % m)) e in
        record { below = omega (arith, div-add-mod' a m, mod-lt a p); above = omega (arith, div-add-mod' a m, mod-lt a p) }

divisor-positive : (q : ℕ) → 0 < divisor_of q
unfolding divisor_of
divisor-positive q = omega arith

-- with the sign of the sum
signed-nearest : (S : ℤ) (d k : ℕ) → Nearest (nat_abs S) (d * 2 ^ 32) k → nat_abs (pos (2 ^ 32) *ℤ (pos d *ℤ with_sign S k) -ℤ S) ≤ d * 2 ^ 31
unfolding with_sign
signed-nearest (pos n) d k h = let a = h.below in let b = h.above in simp differences (omega arith)
signed-nearest (negsuc n) d k h = let a = h.below in let b = h.above in simp differences (omega arith)

pub coefficient-nearest : (S : ℤ) (q : ℕ) → nat_abs (pos (2 ^ 32) *ℤ (pos (divisor_of q) *ℤ coefficient S q) -ℤ S) ≤ divisor_of q * 2 ^ 31
unfolding coefficient
coefficient-nearest S q =
    let l : 0 < divisor_of q = divisor-positive q in
    signed-nearest S (divisor_of q) (rounded (nat_abs S) (divisor_of q * 2 ^ 32)) (rounded-nearest (nat_abs S) (divisor_of q * 2 ^ 32) (omega arith))

-- sums that give one coefficient are within its divisor of each other
pub coefficient-same : (S T : ℤ) (q : ℕ) → coefficient S q ≡ coefficient T q → nat_abs (S -ℤ T) ≤ divisor_of q * 2 ^ 32
coefficient-same S T q e =
    let M : ℤ = pos (2 ^ 32) *ℤ (pos (divisor_of q) *ℤ coefficient S q) in
    let near : nat_abs (M -ℤ T) ≤ divisor_of q * 2 ^ 31 = rw (sym e) at (coefficient-nearest T q) in
    between M S T (divisor_of q) (coefficient-nearest S q) near
  where
    between : (M S T : ℤ) (d : ℕ) → nat_abs (M -ℤ S) ≤ d * 2 ^ 31 → nat_abs (M -ℤ T) ≤ d * 2 ^ 31 → nat_abs (S -ℤ T) ≤ d * 2 ^ 32
    between = by-dif _ λ a b. by-dif _ λ c e. by-dif _ λ f g. λ d h k. let h' = simp differences at h in let k' = simp differences at k in simp differences (omega arith)
