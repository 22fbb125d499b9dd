use Rattle.clamping.specs.Clamping.{sample12bit}
use Rattle.block.proofs.Store.{Pasted}
use Rattle.idct_12bit.proofs.samples_12bit.put_row_small.Given as goal

abbrev pub invariant-loop-k : goal.invariant-loop-k
invariant-loop-k l = Pasted sample12bit l.initial.output l.at l.q l.k l.output
