use mathlib.Core.Path.{refl, ap, ◌∙◌}
use native.Mathlib.Omega.{arith}
use Rattle.guarded_quantizer.specs.Transform.{fdct8}
use Rattle.guarded_quantizer.specs.Values.{fdct_values}
use Rattle.fdct_f64.proofs.ByColumns.{none, more, same, all}
use Rattle.guarded_quantizer.proofs.Values.{column-of-rows, value-at}
use Rattle.fdct_f64.proofs.fdct_values.Goals as goal

pub loop-v-init : goal.loop-v-init
loop-v-init c = same _ _ _ _ _ c.loop-u.invariant (omega arith)

pub loop-v-preserved : goal.loop-v-preserved
loop-v-preserved c =
    let block = c.args.block.now in let column = c.fdct_8-column.ensures ∙ ap fdct8 (column-of-rows block c.loop-u.u c.fdct_rows-rows.ensures c.load_column.ensures) in
    more _ _ c.loop-u.u c.loop-v.v _ _ _ c.loop-v.invariant (omega arith) (omega arith) (omega arith) (value-at block c.loop-u.u c.loop-v.v (omega arith) column)

pub loop-u-preserved : goal.loop-u-preserved
loop-u-preserved c = same _ _ _ _ _ c.loop-v.invariant (omega arith)

pub returns : goal.returns
unfolding fdct_values
returns c = all _ _ _ _ c.loop-u.invariant (omega arith)

pub loop-u-init : goal.loop-u-init
loop-u-init c = none _ _ _ refl
