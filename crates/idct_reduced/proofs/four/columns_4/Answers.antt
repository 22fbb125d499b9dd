use mathlib.Core.Path.{refl}
use native.Mathlib.Omega.{arith}
use Rattle.lists.proofs.Tab.{none, next, filled}
use Rattle.gains.specs.Gains.{skipped4}
use Rattle.passes.specs.Passes.{four}
use Rattle.block.specs.Block.{columns}
use Rattle.block.proofs.Column.{column-four}
use Rattle.block.proofs.Steps.{column-read}
use Rattle.block.proofs.Unread.{four-column}
use Rattle.idct_reduced.proofs.four.columns_4.Goals as goal

pub loop-u-preserved : goal.loop-u-preserved
unfolding four
loop-u-preserved c = next c.loop-u.invariant (omega arith) (column-read four skipped4 column-four four-column _ _ (c.load_column_4.ensures.value, c.load_column_4.ensures.every) c.pass_4.ensures)

pub loop-u-init : goal.loop-u-init
unfolding columns
loop-u-init c = none _ 8 _ refl

pub returns : goal.returns
unfolding columns
returns c = filled c.loop-u.invariant (omega arith)
