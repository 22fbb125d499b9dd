-- How large a coefficient is. Assumes nothing.
use mathlib.Core.Path.{◌≡◌, refl}
use mathlib.Core.Bool.{Bool, true, false, cond}
use Prim.Native.Nat.{ℕ, ◌+◌, ◌*◌, ◌/◌, ◌%◌, ◌^◌, ◌<◌, ◌≤◌}
use native.Mathlib.Nat.{div-add-mod', mul-le-mul_left}
use native.Mathlib.Omega.{arith}
use borrow.Author.Tests.{leb-true}
use lib.Dec.{leb}
use lib.IntN.{ℤ, nat_abs}
use Rattle.quantize.specs.Quantize.{divisor_of, rounded, coefficient}
use Rattle.quantize.proofs.Halves.{sign-size}

-- a quotient of at most a whole number rounds to at most that
rounded-size : (a d k : ℕ) → 0 < d → a ≤ k * 2 ^ 32 → rounded a (d * 2 ^ 32) ≤ k
unfolding rounded
rounded-size a d k p h = let m : ℕ = d * 2 ^ 32 in go m (mul-le-mul_left (a / m) (omega arith)) (omega arith) (leb m (2 * (a % m))) refl
  where
    go : (m : ℕ) → a / m * 2 ^ 32 ≤ a / m * m → 0 < m → (t : Bool) → leb m (2 * (a % m)) ≡ t → a / m + cond t 1 0 ≤ k
    go m part some true e = let l = leb-true m (2 * (a % m)) e in omega (arith, div-add-mod' a m)
    go m part some false e = omega (arith, div-add-mod' a m)

pub coefficient-size : (S : ℤ) (q k : ℕ) → nat_abs S ≤ k * 2 ^ 32 → nat_abs (coefficient S q) ≤ k
unfolding coefficient divisor_of
coefficient-size S q k h = rw (sign-size S (rounded (nat_abs S) (divisor_of q * 2 ^ 32))) (rounded-size (nat_abs S) (divisor_of q) k (omega arith) h)
