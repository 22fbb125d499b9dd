use mathlib.Core.Path.{refl}
use native.Mathlib.Omega.{arith}
use lib.IntN.{pos}
use Rattle.lists.specs.Every.{every}
use Rattle.lists.proofs.Every.{every-all}
use Rattle.lists.proofs.Tab.{length-tab}
use Rattle.block.specs.Block.{row_of}
use Rattle.idct_8x8.proofs.Shortcut.{full, full-next}
use Rattle.idct_8x8.proofs.row_pass.no_shortcut.Goals as goal

pub loop-y-init : goal.loop-y-init
unfolding every
loop-y-init c = refl

pub loop-y-preserved : goal.loop-y-preserved
loop-y-preserved c =
    full-next _ c.loop-y.y c.loop-y.invariant (omega arith) (c.load_row.ensures (pos 0)) c.ac_is_zero.ensures

pub returns : goal.returns
returns c = every-all full _ c.loop-y.y c.loop-y.invariant (omega (arith, length-tab 8 (row_of c.args.w.now)))
