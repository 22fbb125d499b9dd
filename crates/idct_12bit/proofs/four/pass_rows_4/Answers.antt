use lib.IntN.{pos}
use mathlib.Core.Path.{refl, ap, ◌∙◌}
use native.Mathlib.Omega.{arith}
use mir.Syntax.{w64}
use Rattle.lists.proofs.Tab.{none, next, filled}
use Rattle.gains.specs.Gains.{gains4}
use Rattle.passes.specs.Passes.{pass}
use Rattle.idct_12bit.proofs.four.pass_rows_4.Goals as goal

pub loop-y-preserved : goal.loop-y-preserved
loop-y-preserved c =
    next c.loop-y.invariant (omega arith) (c.row_4.ensures ∙ ap (pass w64 gains4 18) (c.widen_8.ensures ∙ (c.load_row.ensures (pos 0))))

pub loop-y-init : goal.loop-y-init
loop-y-init c = none _ 4 _ refl

pub returns : goal.returns
returns c = filled c.loop-y.invariant (omega arith)
