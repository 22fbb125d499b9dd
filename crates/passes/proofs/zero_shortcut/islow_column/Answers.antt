use Rattle.std.proofs.Common.{rules}
use Rattle.passes.specs.Passes.{eight, dc}
use Rattle.passes.proofs.Steps.{zero-column, full-column, dc-column}
use Rattle.passes.proofs.zero_shortcut.islow_column.Goals as goal

pub returns-then-ac_is_zero : goal.returns-then-ac_is_zero
unfolding eight
returns-then-ac_is_zero c =
    let p = c.args.p in zero-column eight p c.ac_is_zero.ensures c.if-ac_is_zero.true (dc-column (dc p) (search rules) c.times.ensures)

pub returns-else-ac_is_zero : goal.returns-else-ac_is_zero
unfolding eight
returns-else-ac_is_zero c = full-column eight _ c.ac_is_zero.ensures c.if-ac_is_zero.false c.islow_pass1.ensures
