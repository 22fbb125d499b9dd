use lib.ListN.{get_or}
use lib.IntN.{pos}
use Rattle.lists.proofs.Tab.{Filled}
use Rattle.idct_8x8.proofs.row_pass.widen_8.Given as goal

abbrev pub invariant-loop-k : goal.invariant-loop-k
invariant-loop-k g l = Filled (λ i. get_or (g.T.Number.values l.p) i (pos 0)) 8 l.k l.r
