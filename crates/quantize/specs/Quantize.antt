-- Document 01, leaf 4, and T.81 A.3.4: a scaled sum S divided by its divisor and rounded.
use Rattle.std.specs.Prelude.{cond, ℕ, ◌+◌, ◌*◌, ◌/◌, ◌%◌, ◌^◌, max, leb, ℤ, pos, negsuc, neg_ℤ, nat_abs}

-- "d = max(1, quantizer)"
unfoldable pub divisor_of : ℕ → ℕ
divisor_of q = max 1 q

-- a / m rounded to the nearest whole number, halves up: the quotient, and one more where twice the remainder reaches m
unfoldable pub rounded : ℕ → ℕ → ℕ
rounded a m = a / m + cond (leb m (2 * (a % m))) 1 0

-- k with the sign of z
unfoldable pub with_sign : ℤ → ℕ → ℤ
with_sign (pos n) k = pos k
with_sign (negsuc n) k = neg_ℤ (pos k)

-- "the coefficient is S / (d·2^32) rounded to nearest, halves away from zero"
unfoldable pub coefficient : ℤ → ℕ → ℤ
coefficient S q = with_sign S (rounded (nat_abs S) (divisor_of q * 2 ^ 32))
