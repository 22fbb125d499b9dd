use mathlib.Core.Path.{◌≡◌}
use lib.Dec.{leb}
use lib.ListN.{get_or}
use Rattle.lists.specs.Below.{below}
use Rattle.fdct.proofs.twelve_bit.is_12bit.Given as goal

abbrev pub invariant-loop-i : goal.invariant-loop-i
invariant-loop-i l = l.all ≡ below l.i (λ k. leb (get_or l.block k 0) 4095)
