use Rattle.plane.proofs.Placing.{Rows}
use Rattle.plane.proofs.decode.put_block.Given as goal

abbrev pub invariant-loop-j : goal.invariant-loop-j
invariant-loop-j l = Rows l.side l.width l.height l.x l.y l.block l.j l.initial.out l.out
