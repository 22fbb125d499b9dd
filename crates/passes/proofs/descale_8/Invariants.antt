use lib.ListN.{get_or}
use lib.IntN.{pos}
use mir.Syntax.{w32}
use Rattle.lists.proofs.Tab.{Filled}
use Rattle.scaling.specs.Scaling.{descaled}
use Rattle.passes.proofs.descale_8.Given as goal

abbrev pub invariant-loop-i : goal.invariant-loop-i
invariant-loop-i l = Filled (λ k. descaled w32 (get_or l.values k (pos 0)) l.shift) 8 l.i l.out
