use mathlib.Core.Path.{refl}
use lib.Ieee.{of_bits, round}
use Rattle.guarded_quantizer.specs.Literals.{decimal, frac1_sqrt2}
use Rattle.guarded_quantizer.specs.Transform.{fdct8}
use Rattle.fdct_f64.proofs.fdct_8.fdct_8.Goals as goal

pub returns : goal.returns
unfolding of_bits round decimal frac1_sqrt2 fdct8
returns c = refl
