use lib.ListN.{get_or}
use lib.Ieee.{nan}
use Rattle.lists.proofs.Tab.{Filled}
use Rattle.transform.specs.Settled.{point}
use Rattle.transform.proofs.guarded.points_of.Given as goal

abbrev pub invariant-loop-u : goal.invariant-loop-u
invariant-loop-u l = Filled (λ k. point (get_or l.scaled k nan)) 8 l.u l.points
