-- The reader has read the bytes so far.
use Rattle.std.proofs.Common.{List, ℕ}
use Rattle.pgm.proofs.Steps.{Has}
use Rattle.recode_pgm.proofs.read_header.Given as goal

abbrev pub invariant-loop : goal.invariant-loop
invariant-loop g l = (xs : List ℕ) × Has l.reader xs
