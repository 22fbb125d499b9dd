use borrow.Author.Rules.{rules}
use mir.Syntax.{w32}
use Rattle.scaling.proofs.Rounding.{descaled-read}
use Rattle.passes.specs.Passes.{four}
use Rattle.passes.proofs.Steps.{zero_row, full-row}
use Rattle.idct_reduced.proofs.four.row_4.Goals as goal

pub returns-then-ac_is_zero_4 : goal.returns-then-ac_is_zero_4
unfolding four
returns-then-ac_is_zero_4 c = zero_row four c.args.p c.ac_is_zero_4.ensures c.if-ac_is_zero_4.true (descaled-read w32 5 (search rules) c.descale_by-q.ensures)

pub returns-else-ac_is_zero_4 : goal.returns-else-ac_is_zero_4
unfolding four
returns-else-ac_is_zero_4 c = full-row four c.args.p c.ac_is_zero_4.ensures c.if-ac_is_zero_4.false c.pass_4.ensures
