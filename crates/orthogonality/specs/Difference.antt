-- Document 01, demand 3: the sums of squares of its first half.
use Rattle.std.specs.Prelude.{List, ℕ, ◌^◌, pos, ◌-ℤ◌, nat_abs, get_or}
use Rattle.forward.specs.Sum.{total}
use Rattle.quantize.specs.Quantize.{divisor_of}

-- "the sum of (a - b)² over the 64 places"
unfoldable pub squared_differences : List ℕ → List ℕ → ℕ
squared_differences a b = total 64 (λ p. nat_abs (pos (get_or a p 0) -ℤ pos (get_or b p 0)) ^ 2)

-- "the sum of d(n)² over the 64 frequencies", d(n) = max(1, quantizer n)
unfoldable pub squared_divisors : List ℕ → ℕ
squared_divisors quant = total 64 (λ n. divisor_of (get_or quant n 0) ^ 2)
