use native.Mathlib.Omega.{arith}
use Rattle.lists.proofs.Below.{below_all}
use Rattle.transform.proofs.guarded.all_settled.Goals as goal

pub returns : goal.returns
returns c = below_all _ c.loop-point.point-index 8 c.loop-point.invariant (omega arith)
