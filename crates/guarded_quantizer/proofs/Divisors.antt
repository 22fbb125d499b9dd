-- The divisors, as the code computes them.
-- Assumes nothing.
use Rattle.std.specs.Prelude.{◌≡◌, ℕ, List, get_or, replicate, pos}
use mathlib.Core.Path.{refl}
use lib.Ieee.{Float, nan, binary64, mul, div, of_int, of_bits, round}
use Rattle.lists.specs.Tab.{tab}
use Rattle.guarded_quantizer.specs.Literals.{decimal}
use Rattle.guarded_quantizer.specs.Divisors.{aan_scale, reciprocal, zero_divisors}

-- what a refusal holds by value: 64 times the zero of all bits 0
pub zeros : replicate 64 (of_bits binary64 0) ≡ zero_divisors
unfolding of_bits round tab decimal zero_divisors
zeros = refl

-- the operations, and the literals' bits, computed
pub made_one : (q u v : ℕ) {scale : List Float} → scale ≡ aan_scale → div binary64 (of_bits binary64 0x3ff0_0000_0000_0000) (mul binary64 (mul binary64 (mul binary64 (of_bits binary64 0x4020_0000_0000_0000) (get_or scale u nan)) (get_or scale v nan)) (of_int binary64 (pos q))) ≡ reciprocal q u v
unfolding of_bits round decimal reciprocal
made_one q u v e = λ i. div binary64 (decimal 1 0) (mul binary64 (mul binary64 (mul binary64 (decimal 8 0) (get_or (e i) u nan)) (get_or (e i) v nan)) (of_int binary64 (pos q)))
