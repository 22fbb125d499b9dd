use mir.Syntax.{w32}
use Rattle.scaling.proofs.Rounding.{descaled-read}
use Rattle.passes.specs.Passes.{two}
use Rattle.passes.proofs.Steps.{zero_row, full-row}
use Rattle.idct_reduced.proofs.two.row_2.Goals as goal

pub returns-then-ac_is_zero_2 : goal.returns-then-ac_is_zero_2
unfolding two
returns-then-ac_is_zero_2 c =
    let p = c.args.p in zero_row two p c.ac_is_zero_2.ensures c.if-ac_is_zero_2.true (descaled-read w32 5 (record { sfits = c.descale_by-arg-1.given }) c.descale_by.ensures)

pub returns : goal.returns
unfolding two
returns c = full-row two _ c.ac_is_zero_2.ensures c.if-ac_is_zero_2.false c.pass_2.ensures
