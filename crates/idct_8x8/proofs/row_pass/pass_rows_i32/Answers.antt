use mathlib.Core.Path.{refl, ap, ◌∙◌}
use native.Mathlib.Omega.{arith}
use lib.IntN.{pos}
use Rattle.lists.proofs.Tab.{none, next, filled}
use Rattle.passes.specs.Passes.{eight, row_pass}
use Rattle.idct_8x8.proofs.row_pass.pass_rows_i32.Goals as goal

pub loop-y-init : goal.loop-y-init
loop-y-init c = none _ 8 _ refl

pub loop-y-preserved : goal.loop-y-preserved
loop-y-preserved c = next c.loop-y.invariant (omega arith) (c.islow_row.ensures ∙ ap (row_pass eight) (c.load_row.ensures (pos 0)))

pub returns : goal.returns
returns c = filled c.loop-y.invariant (omega arith)
