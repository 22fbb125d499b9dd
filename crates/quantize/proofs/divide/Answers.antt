use native.Mathlib.Omega.{arith}
use Rattle.quantize.proofs.Remainder.{high_small, taken_back, left_over}
use Rattle.quantize.proofs.divide.Goals as goal

pub overflow_cast-result : goal.overflow_cast-result
overflow_cast-result c = omega (arith, high_small c.args.size c.args.divisor c.requires.divisor_nonzero.0 c.requires.divisor_nonzero.2 c.requires.size_bound)

pub overflow_mul-result : goal.overflow_mul-result
overflow_mul-result c = record { fits = omega (arith, taken_back c.args.size c.args.divisor c.requires.divisor_nonzero.0 c.requires.divisor_nonzero.2, c.requires.size_bound) }

pub overflow_sub-result : goal.overflow_sub-result
overflow_sub-result c = taken_back c.args.size c.args.divisor c.requires.divisor_nonzero.0 c.requires.divisor_nonzero.2

pub returns : goal.returns
returns c = record { remainder_value = omega (arith, taken_back c.args.size c.args.divisor c.requires.divisor_nonzero.0 c.requires.divisor_nonzero.2); remainder_lt_divisor = left_over c.args.size c.args.divisor c.requires.divisor_nonzero.0 c.requires.divisor_nonzero.2 }
