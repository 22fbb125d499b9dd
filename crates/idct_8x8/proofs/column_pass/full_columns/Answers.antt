use native.Mathlib.Omega.{arith}
use Rattle.lists.proofs.Tab.{none, next, filled}
use Rattle.block.specs.Block.{columns}
use Rattle.idct_8x8.proofs.Shortcut.{column-full}
use Rattle.idct_8x8.proofs.column_pass.full_columns.Goals as goal

pub loop-u-init : goal.loop-u-init
loop-u-init g c = none _ 8 _ (omega arith)

pub loop-u-preserved : goal.loop-u-preserved
loop-u-preserved g c =
    next c.loop-u.invariant (omega arith) (column-full _ c.requires.none (omega arith) c.load_column.ensures.value c.islow_pass1.ensures)

pub returns : goal.returns
unfolding columns
returns g c = filled c.loop-u.invariant (omega arith)
