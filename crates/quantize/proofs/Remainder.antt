-- The division by a divisor d·2^32, and rounding by its remainder. Assumes nothing.
use mathlib.Core.Path.{◌≡◌, sym, ap, ◌∙◌}
use mathlib.Core.Bool.{Bool, true, false, cond}
use Prim.Native.Nat.{ℕ, ◌+◌, ◌-◌, ◌*◌, ◌/◌, ◌%◌, ◌^◌, ◌<◌, ◌≤◌}
use native.Mathlib.Nat.{div-add-mod', mod-lt, mul-add-div_right, div-eq_of_lt, div-le_self, mul-le-mul_left}
use native.Mathlib.Omega.{arith}
use lib.Dec.{leb}
use Rattle.quantize.specs.Quantize.{rounded}

-- the low 32 bits of m being zero, a division of the high parts has its quotient
module _ (a m : ℕ) (some : 0 < m) (low : m % 2 ^ 32 ≡ 0) where
  abbrev high : ℕ
  high = a / 2 ^ 32 / (m / 2 ^ 32)

  pub high-some : 0 < m / 2 ^ 32
  high-some = omega arith

  product : high * m ≡ 2 ^ 32 * (high * (m / 2 ^ 32))
  product =
      let e : m ≡ 2 ^ 32 * (m / 2 ^ 32) = omega arith in
      ap (λ (k : ℕ). high * k) e ∙ omega arith

  pub high_small : a ≤ 2 ^ 46 → high ≤ 2 ^ 14
  high_small most = omega (arith, div-le_self (a / 2 ^ 32) (m / 2 ^ 32))

  pub taken_back : high * m ≤ a
  taken_back = omega (arith, product, div-add-mod' (a / 2 ^ 32) (m / 2 ^ 32))

  pub left_over : a - high * m < m
  left_over = omega (arith, product, div-add-mod' (a / 2 ^ 32) (m / 2 ^ 32), mod-lt (a / 2 ^ 32) high-some)

-- a quotient and a remainder below the divisor that make up a: the only ones, and what a rounds to by them
module _ {a m : ℕ} (q r : ℕ) (whole : q * m + r ≡ a) (small : r < m) where
  quotient : a / m ≡ q
  quotient = ap (λ (n : ℕ). n / m) (sym whole) ∙ mul-add-div_right (omega arith) q r ∙ ap (λ (n : ℕ). q + n) (div-eq_of_lt small) ∙ omega arith

  remainder : a % m ≡ r
  remainder = let e : a / m * m ≡ q * m = ap (λ (n : ℕ). n * m) quotient in omega (arith, div-add-mod' a m)

  pub rounded-by : q + cond (leb m (2 * r)) 1 0 ≡ rounded a m
  unfolding rounded
  rounded-by = sym (λ i. quotient i + cond (leb m (2 * remainder i)) 1 0)

-- a quotient by such a divisor is small
pub quotient-small : {a : ℕ} (q r d : ℕ) → q * (d * 2 ^ 32) + r ≡ a → 0 < d → a ≤ 2 ^ 46 → q ≤ 2 ^ 14
quotient-small q r d whole some most = omega (arith, mul-le-mul_left q some)

pub one_more : (t : Bool) → cond t 1 0 ≤ 1
one_more true = omega arith
one_more false = omega arith
