use mathlib.Core.Path.{refl, ◌∙◌}
use mathlib.Core.List.{[]}
use native.Mathlib.Omega.{arith}
use Rattle.lists.specs.Every.{every-nil}
use Rattle.lists.proofs.Every.{every-at}
use Rattle.lists.proofs.Tab.{none, next, filled, tab-get_d}
use Rattle.idct_8x8.proofs.row_pass.narrow_columns.Goals as goal

pub loop-column-init : goal.loop-column-init
loop-column-init c = none _ 8 _ refl

pub narrow_8-requires : goal.narrow_8-requires
narrow_8-requires c = every-at c.requires [] every-nil _

pub loop-column-preserved : goal.loop-column-preserved
loop-column-preserved c = next c.loop-column.invariant (omega arith) c.narrow_8.ensures

pub returns : goal.returns
returns c = filled c.loop-column.invariant (omega arith) ∙ tab-get_d [] c.args.w.now 8 (omega arith)
