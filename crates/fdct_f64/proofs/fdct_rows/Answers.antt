use mathlib.Core.Path.{refl, ap, ◌∙◌}
use native.Mathlib.Omega.{arith}
use Rattle.lists.proofs.Tab.{none, more, all}
use Rattle.guarded_quantizer.specs.Transform.{fdct8}
use Rattle.fdct_f64.proofs.fdct_rows.Goals as goal

pub loop-y-init : goal.loop-y-init
loop-y-init c = none _ 8 _ refl

pub loop-y-preserved : goal.loop-y-preserved
loop-y-preserved c = more _ 8 _ _ _ _ c.loop-y.invariant (omega arith) refl (c.fdct_8.ensures ∙ ap fdct8 c.load_row.ensures)

pub returns : goal.returns
returns c = all _ 8 _ _ c.loop-y.invariant (omega arith) (omega arith)
