use mathlib.Core.Path.{ap, ◌∙◌}
use native.Mathlib.Omega.{arith}
use mathlib.Core.List.{List}
use lib.IntN.{ℤ, pos}
use mir.Syntax.{w32}
use Rattle.lists.proofs.Tab.{none, next, filled}
use Rattle.gains.specs.Gains.{gains}
use Rattle.passes.specs.Passes.{eight}
use Rattle.passes.proofs.Steps.{passed}
use Rattle.block.specs.Block.{row_of}
use Rattle.block.proofs.Fit.{row_fits}
use Rattle.block.proofs.Row.{row-eight}
use Rattle.idct_8x8.proofs.Fit.{all-scaled}
use Rattle.idct_8x8.proofs.row_pass.pass_rows_as_i16.Goals as goal

pub loop-y-init : goal.loop-y-init
loop-y-init c = none _ 8 _ (omega arith)

pub narrow_8-requires : goal.narrow_8-requires
narrow_8-requires c = all-scaled c.islow_1d_direct.result c.descale_8.ensures

pub loop-y-preserved : goal.loop-y-preserved
unfolding eight
loop-y-preserved c =
    let row = c.widen_8.ensures ∙ c.load_row.ensures (pos 0) ∙ ap (λ (cols : List (List ℤ)). row_of cols c.loop-y.y) c.narrow_columns-cut.ensures in
    next c.loop-y.invariant (omega arith) (c.narrow_8.ensures ∙ row_fits c.requires eight (λ p l m. row-eight p l (omega arith)) c.loop-y.y row (passed w32 gains 18 _ _ c.islow_1d_direct.ensures c.descale_8.ensures))

pub returns : goal.returns
returns c = filled c.loop-y.invariant (omega arith)
