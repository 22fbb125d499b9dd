use Rattle.lists.proofs.Tab.{Filled}
use Rattle.passes.specs.Passes.{two, column_pass}
use Rattle.block.specs.Block.{column_of}
use Rattle.idct_reduced.proofs.two.columns_2.Given as goal

abbrev pub invariant-loop-u : goal.invariant-loop-u
invariant-loop-u l = Filled (λ k. column_pass two (column_of l.input k)) 8 l.u l.w
