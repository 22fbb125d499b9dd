use mathlib.Core.Path.{sym, ◌∙◌}
use Rattle.transform.proofs.Rows.{settled-row}
use Rattle.transform.proofs.guarded.row_coefficients.Goals as goal

pub points_of-points-requires : goal.points_of-points-requires
points_of-points-requires c =
    record { by_index = c.requires.by_index; nan_value = sym c.all_in_range.ensures ∙ c.if-all_in_range.true }

pub returns-then-all_settled : goal.returns-then-all_settled
returns-then-all_settled c =
    let a = c.args in settled-row a.block.now a.quant.now a.v a.scaled.now c.requires.by_index (sym c.all_in_range.ensures ∙ c.if-all_in_range.true)
    c.points_of-points.ensures (sym c.all_settled.ensures ∙ c.if-all_settled.true) c.whole_parts.ensures

pub returns : goal.returns
returns c = c.each_coefficient.ensures
