use Rattle.lists.proofs.Tab.{Filled}
use Rattle.passes.specs.Passes.{eight, row_pass}
use Rattle.block.specs.Block.{row_of}
use Rattle.idct_8x8.proofs.row_pass.pass_rows_i32.Given as goal

abbrev pub invariant-loop-y : goal.invariant-loop-y
invariant-loop-y l = Filled (λ k. row_pass eight (row_of l.w k)) 8 l.y l.r
