use mir.Syntax.{w64}
use Rattle.lists.proofs.Tab.{Filled}
use Rattle.gains.specs.Gains.{gains4}
use Rattle.passes.specs.Passes.{pass}
use Rattle.block.specs.Block.{row_of}
use Rattle.idct_12bit.proofs.four.pass_rows_4.Given as goal

abbrev pub invariant-loop-y : goal.invariant-loop-y
invariant-loop-y l = Filled (λ k. pass w64 gains4 18 (row_of l.w k)) 4 l.y l.r
