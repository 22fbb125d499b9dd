use lib.ListN.{get_or}
use lib.IntN.{pos}
use Rattle.lists.proofs.Tab.{Filled}
use Rattle.idct_12bit.proofs.passes_12bit.widen_8.Given as goal

abbrev pub invariant-loop-i : goal.invariant-loop-i
invariant-loop-i l = Filled (λ k. get_or l.p k (pos 0)) 8 l.i l.out
