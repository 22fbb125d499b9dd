-- Document 01, "The guarded quantizer", on one f64 q, "value × reciprocal", in whole numbers. A finite q is a / b in absolute value, with
-- a = m * up e and b = down e; s is true where q is negative.
use Rattle.std.specs.Prelude.{ℕ, ◌+◌, ◌-◌, ◌*◌, ◌%◌, ◌^◌, Bool, false, ◌&&◌, ℤ, pos, nat_lt}
use Rattle.std.specs.Prelude.{Float}
use Rattle.std.specs.Float.{nan, inf, fin}
use Rattle.std.specs.Float.Ieee.{up, down, to_signed}
use Rattle.quantize.specs.Quantize.{rounded}

-- r / b "lies less than 2^-19 from one half": 1/2 - 2^-19 < r / b and r / b < 1/2 + 2^-19, each times b * 2^19
unfoldable pub around_half : ℕ → ℕ → Bool
around_half r b = nat_lt (b * (2 ^ 18 - 1)) (r * 2 ^ 19) && nat_lt (r * 2 ^ 19) (b * (2 ^ 18 + 1))

-- "the fraction of the size of value × reciprocal lies less than 2^-19 from one half"; an infinity and a NaN have no fraction
unfoldable pub near_half : Float → Bool
near_half nan = false
near_half (inf s) = false
near_half (fin s m e) = around_half (m * up e % down e) (down e)

-- "else it is rounded, halves away": to the nearest whole number
unfoldable pub to_nearest : Float → Float
to_nearest nan = nan
to_nearest (inf s) = inf s
to_nearest (fin s m e) = fin s (rounded (m * up e) (down e)) (pos 0)

-- "Conversion is the Rust's: saturating to 16 bits, NaN to 0": `as i16`, of 15 bits and a sign
unfoldable pub rounded_to_i16 : Float → ℤ
rounded_to_i16 q = to_signed 15 (to_nearest q)
