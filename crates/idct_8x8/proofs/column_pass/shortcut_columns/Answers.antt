use mathlib.Core.Path.{ap, ◌∙◌}
use native.Mathlib.Omega.{arith}
use Rattle.lists.proofs.Tab.{none, next, filled}
use Rattle.passes.specs.Passes.{eight, column_pass}
use Rattle.block.specs.Block.{columns}
use Rattle.idct_8x8.proofs.column_pass.shortcut_columns.Goals as goal

pub loop-u-init : goal.loop-u-init
loop-u-init c = none _ 8 _ (omega arith)

pub loop-u-preserved : goal.loop-u-preserved
loop-u-preserved c = next c.loop-u.invariant (omega arith) (c.islow_column.ensures ∙ ap (column_pass eight) c.load_column.ensures.value)

pub returns : goal.returns
unfolding columns
returns c = filled c.loop-u.invariant (omega arith)
