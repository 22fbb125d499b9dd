use mir.Syntax.{w64}
use Rattle.lists.proofs.Tab.{Filled}
use Rattle.gains.specs.Gains.{gains4}
use Rattle.passes.specs.Passes.{pass}
use Rattle.block.specs.Block.{column_of}
use Rattle.idct_12bit.proofs.four.columns_4.Given as goal

abbrev pub invariant-loop-u : goal.invariant-loop-u
invariant-loop-u l = Filled (λ k. pass w64 gains4 13 (column_of l.input k)) 8 l.u l.w
