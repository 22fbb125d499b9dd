use Rattle.block.proofs.Store.{Pasted}
use Rattle.block_access.proofs.put_row.Given as goal

abbrev pub invariant-loop-k : goal.invariant-loop-k
invariant-loop-k g l = Pasted g.T.Sampled.clamp l.initial.output l.at l.q l.k l.output
