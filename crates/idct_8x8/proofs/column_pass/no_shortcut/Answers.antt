use mathlib.Core.Path.{refl}
use native.Mathlib.Omega.{arith}
use Rattle.lists.specs.Every.{every}
use Rattle.lists.proofs.Every.{every-all}
use Rattle.lists.proofs.Tab.{length-tab}
use Rattle.block.specs.Block.{column_of, first_rows}
use Rattle.idct_8x8.proofs.Shortcut.{full, full-next}
use Rattle.idct_8x8.proofs.column_pass.no_shortcut.Goals as goal

pub loop-u-init : goal.loop-u-init
unfolding every
loop-u-init g c = refl

pub loop-u-preserved : goal.loop-u-preserved
loop-u-preserved g c =
    full-next _ c.loop-u.u c.loop-u.invariant (omega arith) c.load_column.ensures.value c.ac_is_zero.ensures

pub returns : goal.returns
returns g c =
    every-all full _ c.loop-u.u c.loop-u.invariant (omega (arith, length-tab 8 (column_of (first_rows g.row.ROWS c.args.input.now))))
