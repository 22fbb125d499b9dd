use lib.IntN.{pos}
use mathlib.Core.Path.{ap, ◌∙◌}
use native.Mathlib.Omega.{arith}
use lib.ListN.{length}
use mir.Syntax.{w64}
use Rattle.gains.specs.Gains.{gains}
use Rattle.passes.proofs.Steps.{length-pass, eight-rows}
use Rattle.block.proofs.Rows.{rows_none, rows-turn, rows_all}
use Rattle.idct_12bit.proofs.eight.rows_8.Goals as goal

pub loop-y-preserved : goal.loop-y-preserved
loop-y-preserved c =
    let long = ap length c.pass_8-q.ensures ∙ length-pass w64 gains 17 _ ∙ eight-rows in
    rows-turn c.loop-y.invariant (omega arith) (c.widen_8.ensures ∙ (c.load_row.ensures (pos 0))) c.pass_8-q.ensures long long c.put_row.ensures

pub loop-y-init : goal.loop-y-init
loop-y-init c = rows_none (omega arith)

pub returns : goal.returns
returns c = rows_all c.loop-y.invariant (omega arith)
