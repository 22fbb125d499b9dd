-- Document 02, card 7, and T.81 A.3.4: S divided, then rounded by the remainder.
use Rattle.std.specs.Prelude.{◌≡◌, ℕ, zero, suc, ◌+◌, ◌*◌, ◌<◌, ◌≤◌, ℤ, pos, negsuc, nat_abs}

-- -1, 0 or 1
unfoldable pub sign_of : ℤ → ℤ
sign_of (pos zero) = pos 0
sign_of (pos (suc n)) = pos 1
sign_of (negsuc n) = negsuc 0

-- "Its quotient and remainder are shown to make up the size of S, the remainder below the divisor;
-- the coefficient has the sign of S, unless it is 0, and the size of the quotient, one more exactly
-- when twice the remainder reaches the divisor"
pub record DividedRounded (S : ℤ) (divisor : ℕ) (coefficient : ℤ) : Type 0 where
  pub quotient : ℕ
  pub remainder : ℕ
  pub make-up : quotient * divisor + remainder ≡ nat_abs S
  pub below : remainder < divisor
  pub sign : (coefficient ≡ pos 0 → ⊥) → sign_of coefficient ≡ sign_of S
  pub size : 2 * remainder < divisor → nat_abs coefficient ≡ quotient
  pub one_more : divisor ≤ 2 * remainder → nat_abs coefficient ≡ quotient + 1
