use mathlib.Core.Path.{refl, ap, ◌∙◌}
use native.Mathlib.Omega.{arith}
use lib.ListN.{length}
use mir.Syntax.{w64}
use Rattle.gains.specs.Gains.{gains4}
use Rattle.passes.specs.Passes.{pass}
use Rattle.passes.proofs.Steps.{length-pass, four-rows}
use Rattle.block.proofs.Rows.{rows_none, rows-turn, rows_all, row_made}
use Rattle.idct_12bit.proofs.four.rows_4.Goals as goal

pub loop-y-init : goal.loop-y-init
loop-y-init c = rows_none (omega arith)

pub loop-y-preserved : goal.loop-y-preserved
loop-y-preserved c =
    let made = row_made (pass w64 gains4 18) _ 4 c.pass_rows_4-r.ensures c.loop-y.y (omega arith) in
    let long = ap length made ∙ length-pass w64 gains4 18 _ ∙ four-rows in
    rows-turn c.loop-y.invariant (omega arith) refl made long long c.put_row.ensures

pub returns : goal.returns
returns c = rows_all c.loop-y.invariant (omega arith)
