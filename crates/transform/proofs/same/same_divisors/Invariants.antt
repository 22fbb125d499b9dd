use mathlib.Core.Path.{◌≡◌}
use lib.Dec.{eqb}
use lib.ListN.{get_or}
use Rattle.lists.specs.Below.{below}
use Rattle.transform.proofs.same.same_divisors.Given as goal

abbrev pub invariant-loop-n : goal.invariant-loop-n
invariant-loop-n l = l.same ≡ below l.n (λ k. eqb (get_or l.a k 0) (get_or l.b k 0))
