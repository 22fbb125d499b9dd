use mathlib.Core.Path.{◌≡◌}
use lib.ListN.{get_or}
use Rattle.lists.specs.Below.{below}
use Rattle.transform.specs.Settled.{settled_point}
use Rattle.transform.proofs.guarded.all_settled.Given as goal

abbrev pub invariant-loop-point : goal.invariant-loop-point
invariant-loop-point l = l.all ≡ below l.point-index (λ k. settled_point (get_or l.points k 0))
