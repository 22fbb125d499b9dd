use lib.ListN.{take}
use Rattle.pgm.proofs.Steps.{Has}
use Rattle.pgm.proofs.header_of.Given as goal

abbrev pub invariant-loop-b : goal.invariant-loop-b
invariant-loop-b l = Has l.reader (take l.b-index l.input)
