-- The definitions at known values, computed from their bit patterns.
-- Assumes nothing.
use Rattle.std.specs.Prelude.{◌≡◌, ℕ, Bool, true, false, [], ◌∷◌, map, ℤ, pos, neg_ℤ}
use mathlib.Core.Path.{refl}
use lib.Count.{count_trailing_zeros}
use lib.Ieee.{binary64, odd, of_fields, of_bits, to_signed}
use Rattle.quantize.specs.Quantize.{rounded}
use Rattle.guarded_quantizer.specs.Binary64.{around_half, near_half, to_nearest, rounded_to_i16}

abbrev rounds : ℕ → ℤ
rounds b = rounded_to_i16 (of_bits binary64 b)

abbrev near : ℕ → Bool
near b = near_half (of_bits binary64 b)

-- 0.5, -0.5, 1.5, 2.5, -2.5
halves : map rounds (0x3fe0000000000000 ∷ 0xbfe0000000000000 ∷ 0x3ff8000000000000 ∷ 0x4004000000000000 ∷ 0xc004000000000000 ∷ []) ≡ (pos 1 ∷ neg_ℤ (pos 1) ∷ pos 2 ∷ pos 3 ∷ neg_ℤ (pos 3) ∷ [])
unfolding count_trailing_zeros odd of_fields of_bits rounded to_nearest to_signed rounded_to_i16
halves = refl

-- 0, -0, the smallest subnormal, 0.49999999999999994
zeros : map rounds (0 ∷ 0x8000000000000000 ∷ 1 ∷ 0x3fdfffffffffffff ∷ []) ≡ (pos 0 ∷ pos 0 ∷ pos 0 ∷ pos 0 ∷ [])
unfolding count_trailing_zeros odd of_fields of_bits rounded to_nearest to_signed rounded_to_i16
zeros = refl

-- 32766.5, 32767.5, 1e300, inf
highest : map rounds (0x40dfffa000000000 ∷ 0x40dfffe000000000 ∷ 0x7e37e43c8800759c ∷ 0x7ff0000000000000 ∷ []) ≡ (pos 32767 ∷ pos 32767 ∷ pos 32767 ∷ pos 32767 ∷ [])
unfolding count_trailing_zeros odd of_fields of_bits rounded to_nearest to_signed rounded_to_i16
highest = refl

-- -32767.5, -32768.5, -1e300, -inf
lowest : map rounds (0xc0dfffe000000000 ∷ 0xc0e0001000000000 ∷ 0xfe37e43c8800759c ∷ 0xfff0000000000000 ∷ [])
    ≡ (neg_ℤ (pos 32768) ∷ neg_ℤ (pos 32768) ∷ neg_ℤ (pos 32768) ∷ neg_ℤ (pos 32768) ∷ [])
unfolding count_trailing_zeros odd of_fields of_bits rounded to_nearest to_signed rounded_to_i16
lowest = refl

-- NaNs, also of the lowest and the highest pattern
nans : map rounds (0x7ff8000000000000 ∷ 0x7ff0000000000001 ∷ 0xffffffffffffffff ∷ []) ≡ (pos 0 ∷ pos 0 ∷ pos 0 ∷ [])
unfolding count_trailing_zeros odd of_fields of_bits rounded to_nearest to_signed rounded_to_i16
nans = refl

-- 0.5, -2.5, 4503599627370495.5; 0.5 ± 2^-19 and a last place nearer to 0.5; -7.5 - 2^-19 and a last place nearer
near-halves : map near
    (0x3fe0000000000000 ∷ 0xc004000000000000 ∷ 0x432fffffffffffff ∷ 0x3fe00003ffffffff ∷ 0x3fdffff800000001 ∷ 0xc01e00007fffffff ∷ [])
    ≡ (true ∷ true ∷ true ∷ true ∷ true ∷ true ∷ [])
unfolding count_trailing_zeros odd of_fields of_bits around_half near_half
near-halves = refl

-- 0.5 + 2^-19, 0.5 - 2^-19, -7.5 - 2^-19, 0, the smallest subnormal, 0.25, 1, 2^52, 1e300, inf, a NaN
not-near : map near
    (0x3fe0000400000000 ∷ 0x3fdffff800000000 ∷ 0xc01e000080000000 ∷ 0 ∷ 1 ∷ 0x3fd0000000000000 ∷ 0x3ff0000000000000 ∷ 0x4330000000000000 ∷ 0x7e37e43c8800759c ∷ 0x7ff0000000000000 ∷ 0x7ff8000000000000 ∷ [])
    ≡ (false ∷ false ∷ false ∷ false ∷ false ∷ false ∷ false ∷ false ∷ false ∷ false ∷ false ∷ [])
unfolding count_trailing_zeros odd of_fields of_bits around_half near_half
not-near = refl
