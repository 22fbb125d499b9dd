-- What the functions for a row of coefficients say of each value: the sum that settles it, and the coefficient.
use Rattle.std.specs.Prelude.{Bool, cond, ◌&&◌, List, ℕ, ◌%◌, ◌^◌, leb, get_or, ℤ, Float}
use Rattle.std.specs.Float.{binary64}
use Rattle.std.specs.Float.Ieee.{add, neg, lt, of_bits, to_bits}
use Rattle.forward.specs.Forward.{scaled_sum}
use Rattle.quantize.specs.Quantize.{coefficient}
use Rattle.guarded_quantizer.specs.Binary64.{near_half, rounded_to_i16}

-- smaller than 32767 in absolute value
abbrev pub in_range : Float → Bool
in_range q = lt (neg (of_bits binary64 0x40df_ffc0_0000_0000)) q && lt q (of_bits binary64 0x40df_ffc0_0000_0000)

-- the lower 52 bits of the sum with 2^36 + 32768.5
abbrev pub point : Float → ℕ
point q = to_bits binary64 (add binary64 q (of_bits binary64 0x4230_0000_8000_8000)) % 2 ^ 52

-- their rest, modulo 65536, is not at an end of its range
abbrev pub settled_point : ℕ → Bool
settled_point p = leb 2 (p % 65536) && leb (p % 65536) 65534

-- the coefficient n, of which q is the value times the reciprocal
abbrev pub by_value : List ℕ → List ℕ → ℕ → Float → ℤ
by_value block quant n q = cond (near_half q) (coefficient (scaled_sum 128 block n) (get_or quant n 0)) (rounded_to_i16 q)
