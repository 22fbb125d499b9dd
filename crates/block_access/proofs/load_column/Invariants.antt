use Rattle.block.proofs.Load.{Loaded}
use Rattle.lists.specs.Every.{Every}
use Rattle.block_access.proofs.load_column.Given as goal

abbrev pub invariant-loop-v : goal.invariant-loop-v
invariant-loop-v g l = Loaded (g.T.Number.values l.input) l.rows l.u l.v l.p × Every g.T.Number.Fits l.p
