use mir.Syntax.{w32}
use Rattle.std.proofs.Common.{rules}
use Rattle.scaling.proofs.Rounding.{descaled-read}
use Rattle.passes.specs.Passes.{eight}
use Rattle.passes.proofs.Steps.{zero_row, full-row}
use Rattle.passes.proofs.zero_shortcut.islow_row.Goals as goal

pub returns-then-ac_is_zero : goal.returns-then-ac_is_zero
unfolding eight
returns-then-ac_is_zero c =
    let scaled = descaled-read w32 5 (search rules) c.descale_by.ensures in
    zero_row eight _ c.ac_is_zero.ensures c.if-ac_is_zero.true scaled

pub returns-else-ac_is_zero : goal.returns-else-ac_is_zero
unfolding eight
returns-else-ac_is_zero c = full-row eight _ c.ac_is_zero.ensures c.if-ac_is_zero.false c.islow_pass2.ensures
