use mathlib.Core.Path.{refl}
use native.Mathlib.Omega.{arith}
use Rattle.lists.proofs.Tab.{none, next, filled}
use Rattle.gains.specs.Gains.{skipped2}
use Rattle.passes.specs.Passes.{two}
use Rattle.block.specs.Block.{columns}
use Rattle.block.proofs.Column.{column-two}
use Rattle.block.proofs.Steps.{column-read}
use Rattle.block.proofs.Unread.{two-column}
use Rattle.idct_reduced.proofs.two.columns_2.Goals as goal

pub loop-u-preserved : goal.loop-u-preserved
unfolding two
loop-u-preserved c = next c.loop-u.invariant (omega arith) (column-read two skipped2 column-two two-column _ _ (c.load_column_2.ensures.value, c.load_column_2.ensures.every) c.pass_2.ensures)

pub loop-u-init : goal.loop-u-init
unfolding columns
loop-u-init c = none _ 8 _ refl

pub returns : goal.returns
unfolding columns
returns c = filled c.loop-u.invariant (omega arith)
