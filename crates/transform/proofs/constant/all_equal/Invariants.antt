use mathlib.Core.Path.{◌≡◌}
use lib.Dec.{eqb}
use lib.ListN.{get_or}
use Rattle.lists.specs.Below.{below}
use Rattle.transform.proofs.constant.all_equal.Given as goal

abbrev pub invariant-loop-sample : goal.invariant-loop-sample
invariant-loop-sample l = l.same ≡ below l.sample-index (λ k. eqb (get_or l.block k 0) l.first)
