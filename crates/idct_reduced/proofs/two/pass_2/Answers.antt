use mathlib.Core.Path.{◌∙◌}
use mathlib.Core.List.{[], ◌∷◌}
use mir.Syntax.{w32}
use Rattle.lists.specs.Tab.{tab}
use Rattle.gains.specs.Gains.{gains2}
use Rattle.scaling.proofs.Rounding.{descaled-read}
use Rattle.passes.proofs.Steps.{two-rows}
use Rattle.block.proofs.Steps.{pass-read}
use Rattle.idct_reduced.proofs.two.pass_2.Goals as goal

pub returns : goal.returns
unfolding tab
returns c =
    let s = c.args.shift in let x0 = descaled-read w32 s (record { sfits = c.descale_by-arg-1.given }) c.descale_by.ensures in
    let x1 = descaled-read w32 s (record { sfits = c.descale_by-arg-2-1.given }) c.descale_by-2.ensures in
    (λ i. x0 i ∷ x1 i ∷ []) ∙ pass-read w32 gains2 two-rows s _ _ c.islow_1d_2-v.ensures
