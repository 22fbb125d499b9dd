use mathlib.Core.Path.{◌≡◌}
use lib.ListN.{get_or}
use lib.IntN.{pos}
use Rattle.lists.specs.Below.{below}
use Rattle.stored_blocks.specs.Screen.{passes}
use Rattle.stored_blocks.proofs.all_pass.Given as goal

abbrev pub invariant-loop-n : goal.invariant-loop-n
invariant-loop-n l = l.all ≡ below l.n (λ k. passes k (get_or l.quant k 0) (get_or l.coefficients k (pos 0)))
