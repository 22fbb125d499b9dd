use native.Mathlib.Omega.{arith}
use Rattle.lists.proofs.Below.{below_all}
use Rattle.transform.proofs.guarded.all_in_range.Goals as goal

pub returns : goal.returns
returns c = below_all _ c.loop-q.q-index 8 c.loop-q.invariant (omega arith)
