use native.Mathlib.Omega.{arith}
use Rattle.lists.proofs.Below.{below_all}
use Rattle.guarded_quantizer.specs.Same.{same_divisors}
use Rattle.transform.proofs.same.same_divisors.Goals as goal

pub returns : goal.returns
unfolding same_divisors
returns c = below_all _ c.loop-n.n 64 c.loop-n.invariant (omega arith)
