use mathlib.Core.Path.{◌≡◌}
use lib.ListN.{get_or}
use lib.Ieee.{nan}
use Rattle.lists.specs.Below.{below}
use Rattle.transform.specs.Settled.{in_range}
use Rattle.transform.proofs.guarded.all_in_range.Given as goal

abbrev pub invariant-loop-q : goal.invariant-loop-q
invariant-loop-q l = l.all ≡ below l.q-index (λ k. in_range (get_or l.scaled k nan))
