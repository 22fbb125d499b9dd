-- Fractions that are at most so many units of 2^-40 apart: through a third one, and both times a fraction.
-- Assumes nothing.
use mathlib.Core.Path.{◌≡◌, sym, ap, ◌∙◌}
use Prim.Native.Nat.{ℕ, ◌+◌, ◌*◌, ◌^◌, ◌≤◌, ◌<◌}
use native.Mathlib.Nat.{mul-le-mul_right, le_of_mul-le-mul_right}
use native.Mathlib.Omega.{arith}
use lib.IntN.{ℤ, pos, nat_abs, ◌+ℤ◌, ◌-ℤ◌, ◌*ℤ◌}
use Rattle.integers.proofs.Difference.{dif-eq, by-dif, differences}
use Rattle.integers.proofs.Ring.{ring, nat_abs-+, nat_abs-*}
use Rattle.agreement.specs.Budget.{Apart}

pub apart-trans : {x y z : ℤ} {m n o e d : ℕ} → 0 < n → Apart x m y n e → Apart y n z o d → Apart x m z o (e + d)
apart-trans {x} {y} {z} {m} {n} {o} {e} {d} N p q =
    let P : ℕ = nat_abs (x *ℤ pos n -ℤ y *ℤ pos m) in
    let Q : ℕ = nat_abs (y *ℤ pos o -ℤ z *ℤ pos n) in
    let R : ℕ = nat_abs (x *ℤ pos o -ℤ z *ℤ pos m) in
    let sum : R * n ≤ P * o + Q * m = three x y z m n o in
    let first : P * 2 ^ 40 * o ≤ e * (m * n) * o = mul-le-mul_right o p.within in
    let second : Q * 2 ^ 40 * m ≤ d * (n * o) * m = mul-le-mul_right m q.within in
    record { within = le_of_mul-le-mul_right (close P Q R sum first second) N }
  where
    split : (m n o : ℕ) (x y z : ℤ) → (x *ℤ pos o -ℤ z *ℤ pos m) *ℤ pos n ≡ (x *ℤ pos n -ℤ y *ℤ pos m) *ℤ pos o +ℤ (y *ℤ pos o -ℤ z *ℤ pos n) *ℤ pos m
    split m n o = by-dif _ λ a b. by-dif _ λ c d. by-dif _ λ e f. simp differences (dif-eq _ _ _ _ (omega arith))

    three : (x y z : ℤ) (m n o : ℕ) → nat_abs (x *ℤ pos o -ℤ z *ℤ pos m) * n ≤ nat_abs (x *ℤ pos n -ℤ y *ℤ pos m) * o + nat_abs (y *ℤ pos o -ℤ z *ℤ pos n) * m
    three x y z m n o =
        let a = x *ℤ pos n -ℤ y *ℤ pos m in
        let b = y *ℤ pos o -ℤ z *ℤ pos n in
        let whole = nat_abs-* (x *ℤ pos o -ℤ z *ℤ pos m) (pos n) in
        omega (arith, sym whole ∙ ap nat_abs (split m n o x y z), nat_abs-+ (a *ℤ pos o) (b *ℤ pos m), nat_abs-* a (pos o), nat_abs-* b (pos m))

    close : (P Q R : ℕ) → R * n ≤ P * o + Q * m → P * 2 ^ 40 * o ≤ e * (m * n) * o → Q * 2 ^ 40 * m ≤ d * (n * o) * m → R * 2 ^ 40 * n ≤ (e + d) * (m * o) * n
    close P Q R a b c = omega arith

-- both times c / d, which is at most k in size
pub apart-times : {x y : ℤ} {m n e : ℕ} (c : ℤ) (d k : ℕ) → nat_abs c ≤ k * d → Apart x m y n e → Apart (x *ℤ c) (m * d) (y *ℤ c) (n * d) (k * e)
apart-times {x} {y} {m} {n} {e} c d k h p =
    let P : ℕ = nat_abs (x *ℤ pos n -ℤ y *ℤ pos m) in
    let first : P * 2 ^ 40 * (nat_abs c * d) ≤ e * (m * n) * (nat_abs c * d) = mul-le-mul_right (nat_abs c * d) p.within in
    let second : nat_abs c * (e * (m * n) * d) ≤ k * d * (e * (m * n) * d) = mul-le-mul_right (e * (m * n) * d) h in
    let size : nat_abs ((x *ℤ c) *ℤ pos (n * d) -ℤ (y *ℤ c) *ℤ pos (m * d)) ≡ P * (nat_abs c * d) =
    ap nat_abs (split x y c (pos m) (pos n) (pos d)) ∙ nat_abs-* (x *ℤ pos n -ℤ y *ℤ pos m) (c *ℤ pos d) ∙ ap (λ (z : ℕ). P * z) (nat_abs-* c (pos d)) in
    record { within = close P (nat_abs c) (nat_abs ((x *ℤ c) *ℤ pos (n * d) -ℤ (y *ℤ c) *ℤ pos (m * d))) size first second }
  where
    split : (x y c m n d : ℤ) → (x *ℤ c) *ℤ (n *ℤ d) -ℤ (y *ℤ c) *ℤ (m *ℤ d) ≡ (x *ℤ n -ℤ y *ℤ m) *ℤ (c *ℤ d)
    split x y c m n d = simp ring

    close : (P C R : ℕ) → R ≡ P * (C * d) → P * 2 ^ 40 * (C * d) ≤ e * (m * n) * (C * d) → C * (e * (m * n) * d) ≤ k * d * (e * (m * n) * d) → R * 2 ^ 40 ≤ k * e * (m * d * (n * d))
    close P C R a b c = omega arith
