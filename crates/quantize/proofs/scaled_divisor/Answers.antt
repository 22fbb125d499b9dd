use mathlib.Core.Path.{ap}
use Prim.Native.Nat.{ℕ, ◌*◌, ◌^◌}
use native.Mathlib.Omega.{arith}
use Rattle.quantize.specs.Quantize.{divisor_of}
use Rattle.quantize.proofs.scaled_divisor.Goals as goal

pub overflow_mul-result : goal.overflow_mul-result
unfolding divisor_of
overflow_mul-result c = record { fits = omega (arith, c.divisor.ensures, c.ranges.quantizer.fits) }

pub returns : goal.returns
unfolding divisor_of
returns c =
    let e = c.divisor.ensures in let f = c.ranges.quantizer.fits in record { value = ap (λ (d : ℕ). d * 2 ^ 32) e; result_nonzero = (omega (arith, e), omega (arith, e, f)) }
