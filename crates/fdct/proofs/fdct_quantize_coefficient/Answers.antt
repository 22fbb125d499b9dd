use mathlib.Core.Path.{◌≡◌, ◌∙◌}
use mathlib.Core.Bool.{true}
use borrow.Author.Rules.{rules}
use lib.Dec.{leb}
use mir.Syntax.{w16}
use mir.Val.{to_z, of_z}
use Rattle.forward.specs.Forward.{centred_sum}
use Rattle.forward.proofs.Folding.{sum-centred}
use Rattle.quantize.specs.Quantize.{coefficient}
use Rattle.forward.proofs.Canonical.{one-answers}
use Rattle.refusals.proofs.Refusals.{has, ◌then◌, accepted}
use Rattle.fdct.proofs.Small.{shifted, shifted-small}
use Rattle.fdct.proofs.fdct_quantize_coefficient.Goals as goal

pub coefficient_at-requires-clause-centred : goal.coefficient_at-requires-clause-centred
coefficient_at-requires-clause-centred c = shifted-small c.widen.ensures c.type_inv.block c.level_shift-samples.ensures

pub returns : goal.returns
returns c =
    let sum = (λ i. centred_sum (shifted c.widen.ensures c.level_shift-samples.ensures i) c.args.natural) ∙ sum-centred 128 c.args.block.now c.args.natural in
    let read : to_z w16 (of_z w16 c.coefficient_at.result) ≡ c.coefficient_at.result = search rules in
    let index : leb c.args.natural 63 ≡ true = search rules in
    one-answers _ _ _ (accepted _ _ _ (has (search rules) then index then tt) (read ∙ c.coefficient_at.ensures.value ∙ (λ i. coefficient (sum i) (c.from.ensures i))))
