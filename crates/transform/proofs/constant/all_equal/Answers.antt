use native.Mathlib.Omega.{arith}
use Rattle.lists.proofs.Below.{below_all}
use Rattle.guarded_quantizer.specs.Constant.{constant}
use Rattle.transform.proofs.constant.all_equal.Goals as goal

pub returns : goal.returns
unfolding constant
returns c = below_all _ c.loop-sample.sample-index 64 c.loop-sample.invariant (omega arith)
