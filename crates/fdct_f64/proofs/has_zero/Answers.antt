use mathlib.Core.Path.{refl, ap, ◌∙◌}
use native.Mathlib.Omega.{arith}
use lib.Seq.{take_all}
use Rattle.guarded_quantizer.specs.Divisors.{has_zero}
use Rattle.guarded_quantizer.proofs.Zero.{zero_more}
use Rattle.fdct_f64.proofs.has_zero.Goals as goal

pub loop-q-init : goal.loop-q-init
unfolding has_zero
loop-q-init c = refl

pub loop-q-preserved : goal.loop-q-preserved
loop-q-preserved c = zero_more c.args.quant.now c.loop-q.q-index (omega arith) c.loop-q.invariant

pub returns : goal.returns
returns c =
    c.loop-q.invariant ∙ ap has_zero (take_all c.loop-q.q-index c.args.quant.now (omega arith))
