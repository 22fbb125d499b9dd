use mathlib.Core.Path.{refl}
use lib.Ieee.{of_bits, round}
use Rattle.guarded_quantizer.specs.Literals.{decimal}
use Rattle.guarded_quantizer.specs.Divisors.{aan_scale}
use Rattle.fdct_f64.proofs.aan_scale.Goals as goal

pub returns : goal.returns
unfolding of_bits round decimal aan_scale
returns c = refl
