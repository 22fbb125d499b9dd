use Rattle.lists.proofs.Tab.{Filled}
use Rattle.passes.specs.Passes.{eight, column_pass}
use Rattle.block.specs.Block.{column_of, first_rows}
use Rattle.idct_8x8.proofs.column_pass.shortcut_columns.Given as goal

abbrev pub invariant-loop-u : goal.invariant-loop-u
invariant-loop-u l = Filled (λ k. column_pass eight (column_of (first_rows l.rows l.input) k)) 8 l.u l.w
