use mathlib.Core.Path.{refl}
use native.Mathlib.Omega.{arith}
use mir.Syntax.{w64}
use Rattle.lists.proofs.Tab.{none, next, filled}
use Rattle.gains.specs.Gains.{skipped4}
use Rattle.block.specs.Block.{columns}
use Rattle.block.proofs.Unread.{four-pass, column-skipped}
use Rattle.idct_12bit.proofs.four.columns_4.Goals as goal

pub loop-u-preserved : goal.loop-u-preserved
loop-u-preserved c = next c.loop-u.invariant (omega arith) (column-skipped skipped4 _ (four-pass w64 13) _ _ c.load_column_4.ensures.value c.column_4.ensures)

pub loop-u-init : goal.loop-u-init
unfolding columns
loop-u-init c = none _ 8 _ refl

pub column_4-requires : goal.column_4-requires
unfolding columns
column_4-requires c = c.load_column_4.ensures.every

pub returns : goal.returns
unfolding columns
returns c = filled c.loop-u.invariant (omega arith)
