use mathlib.Core.Path.{sym, subst}
use lib.Dec.{T}
use Rattle.block.proofs.Fit.{all_fit}
use Rattle.idct_8x8.proofs.row_pass.pass_rows.Goals as goal

pub pass_rows_as_i16-requires : goal.pass_rows_as_i16-requires
pass_rows_as_i16-requires c = all_fit c.args.w.now c.columns_fit.ensures c.if-columns_fit.true

pub returns-then-columns_fit : goal.returns-then-columns_fit
returns-then-columns_fit c = λ _. c.pass_rows_as_i16.ensures

pub returns : goal.returns
returns c = λ e. absurd (subst T (sym e) tt)
