use mathlib.Core.Path.{◌≡◌}
use mathlib.Core.Bool.{◌||◌}
use lib.Dec.{eqb}
use lib.ListN.{get_or}
use lib.IntN.{pos}
use Rattle.integers.specs.Equal.{eq_z}
use Rattle.lists.specs.Below.{below}
use Rattle.transform.proofs.same.same_ac.Given as goal

abbrev pub invariant-loop-z : goal.invariant-loop-z
invariant-loop-z l = l.same ≡ below l.z (λ k. eqb k 0 || eq_z (get_or l.a k (pos 0)) (get_or l.b k (pos 0)))
