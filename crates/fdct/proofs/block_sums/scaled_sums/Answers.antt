use mathlib.Core.Path.{◌∙◌}
use Rattle.lists.specs.Tab.{tab}
use Rattle.lists.proofs.Tab.{tab-ext}
use Rattle.forward.specs.Forward.{centred_sum}
use Rattle.forward.proofs.Folding.{sum-centred}
use Rattle.fdct.proofs.Small.{shifted, shifted-small}
use Rattle.fdct.proofs.block_sums.scaled_sums.Goals as goal

pub scaled_sums-requires : goal.scaled_sums-requires
scaled_sums-requires c = shifted-small c.widen.ensures c.type_inv.block c.level_shift-samples.ensures

pub returns-clause-value : goal.returns-clause-value
returns-clause-value c =
    c.scaled_sums.ensures.value ∙ (λ i. tab 64 (centred_sum (shifted c.widen.ensures c.level_shift-samples.ensures i)))
    ∙ tab-ext 64 _ _ (λ n b. sum-centred 128 c.args.block.now n)
