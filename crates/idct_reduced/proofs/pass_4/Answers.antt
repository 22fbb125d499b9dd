use mathlib.Core.Path.{◌∙◌}
use mathlib.Core.List.{[], ◌∷◌}
use mir.Syntax.{w32}
use Rattle.lists.specs.Tab.{tab}
use Rattle.gains.specs.Gains.{gains4}
use Rattle.scaling.proofs.Rounding.{descaled-read}
use Rattle.passes.proofs.Steps.{four-rows}
use Rattle.block.proofs.Steps.{pass-read}
use Rattle.idct_reduced.proofs.pass_4.Goals as goal

pub returns : goal.returns
unfolding tab
returns c =
    let s = c.args.shift in let x0 = descaled-read w32 s (record { sfits = c.descale_by-arg-1.given }) c.descale_by.ensures in
    let x1 = descaled-read w32 s (record { sfits = c.descale_by-arg-2-1.given }) c.descale_by-2.ensures in
    let x2 = descaled-read w32 s (record { sfits = c.descale_by-arg-3-1.given }) c.descale_by-3.ensures in
    let x3 = descaled-read w32 s (record { sfits = c.descale_by-arg-4-1.given }) c.descale_by-4.ensures in
    (λ i. x0 i ∷ x1 i ∷ x2 i ∷ x3 i ∷ []) ∙ pass-read w32 gains4 four-rows s _ _ c.islow_1d_4-v.ensures
