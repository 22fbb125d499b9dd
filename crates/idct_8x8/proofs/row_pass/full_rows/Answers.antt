use mathlib.Core.Path.{◌∙◌}
use native.Mathlib.Omega.{arith}
use lib.IntN.{pos}
use mir.Syntax.{w32}
use Rattle.integers.specs.Linear.{transform}
use Rattle.lists.proofs.Tab.{none, next, filled}
use Rattle.gains.specs.Gains.{gains}
use Rattle.passes.specs.Passes.{pass}
use Rattle.idct_8x8.proofs.Fit.{all-scaled}
use Rattle.idct_8x8.proofs.Shortcut.{row-full}
use Rattle.idct_8x8.proofs.row_pass.full_rows.Goals as goal

pub loop-y-init : goal.loop-y-init
loop-y-init c = none _ 8 _ (omega arith)

pub narrow_8-requires : goal.narrow_8-requires
unfolding pass
narrow_8-requires c = all-scaled (transform w32 gains c.load_row.result) c.islow_pass2.ensures

pub loop-y-preserved : goal.loop-y-preserved
loop-y-preserved c =
    next c.loop-y.invariant (omega arith) (c.narrow_8.ensures ∙ row-full _ c.requires (omega arith) (c.load_row.ensures (pos 0)) c.islow_pass2.ensures)

pub returns : goal.returns
returns c = filled c.loop-y.invariant (omega arith)
