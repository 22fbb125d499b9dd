use Rattle.std.proofs.Common.{arith}
use Rattle.quantize.specs.Quantize.{divisor_of}
use Rattle.quantize.proofs.divisor.Goals as goal

pub returns : goal.returns
unfolding divisor_of
returns c = omega (arith, c.from.ensures, c.max.ensures)
