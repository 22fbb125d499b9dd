-- Document 01, "Added by design": dequantizing.
use Rattle.std.specs.Prelude.{List, ℕ, get_or, ℤ, pos, ◌*ℤ◌}
use Rattle.lists.specs.Tab.{tab}
use Rattle.quantize.specs.Quantize.{divisor_of}

-- "64 16-bit coefficients times d"
unfoldable pub product : List ℤ → List ℕ → ℕ → ℤ
product cs quant n = get_or cs n (pos 0) *ℤ pos (divisor_of (get_or quant n 0))

unfoldable pub dequantized : List ℤ → List ℕ → List ℤ
dequantized cs quant = tab 64 (product cs quant)
