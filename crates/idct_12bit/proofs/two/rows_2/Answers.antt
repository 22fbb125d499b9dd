use lib.IntN.{pos}
use Prim.Native.Nat.{◌-◌, ◌^◌}
use mathlib.Core.Path.{sym, ap, ◌∙◌, subst}
use native.Mathlib.Omega.{arith}
use lib.ListN.{length}
use mir.Syntax.{w64}
use Rattle.gains.specs.Gains.{gains2}
use Rattle.passes.specs.Passes.{pass}
use Rattle.passes.proofs.Steps.{length-pass, two-rows}
use Rattle.block.specs.Bound.{AtMost}
use Rattle.block.proofs.Rows.{rows_none, rows-turn, rows_all}
use Rattle.idct_12bit.proofs.Small.{row-small-two}
use Rattle.idct_12bit.proofs.two.rows_2.Goals as goal

pub put_row_small-requires : goal.put_row_small-requires
put_row_small-requires c =
    let row = c.pass_2-q.ensures ∙ ap (pass w64 gains2 19) (c.load_row.ensures (pos 0)) in record { q_in_bounds = omega arith; at_most = subst (AtMost (2 ^ 31 - 2 ^ 12)) (sym row) (row-small-two c.args.w.now _ c.requires.every) }

pub loop-y-preserved : goal.loop-y-preserved
loop-y-preserved c =
    let long = ap length c.pass_2-q.ensures ∙ length-pass w64 gains2 19 _ ∙ two-rows in
    rows-turn c.loop-y.invariant (omega arith) (c.load_row.ensures (pos 0)) c.pass_2-q.ensures long long c.put_row_small.ensures

pub loop-y-init : goal.loop-y-init
loop-y-init c = rows_none (omega arith)

pub returns : goal.returns
returns c = rows_all c.loop-y.invariant (omega arith)
