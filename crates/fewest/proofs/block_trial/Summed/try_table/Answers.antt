use mathlib.Core.Path.{ap, ◌∙◌}
use Rattle.passes.specs.Passes.{eight}
use Rattle.block.specs.Block.{block}
use Rattle.plane.specs.Scale.{full, fitted, block_samples}
use Rattle.percent.specs.Nonzeros.{nonzeros}
use Rattle.fewest.specs.Blocks.{error_within, block_error, block_trial}
use Rattle.fewest.proofs.block_trial.Summed.try_table.Goals as goal

pub returns-clause-value : goal.returns-clause-value
unfolding block_trial block_error block_samples
returns-clause-value c =
    let s = c.args.self.now in
    let coded = c.quantized-coefficients.ensures in
    let decoded = c.write_i32.ensures.output_after ∙ ap (block eight) (c.products_i32-products.ensures ∙ ap (fitted full c.args.quant.now) coded) in
    let error = c.error_within.ensures.value ∙ ap (error_within s.columns s.rows s.block) decoded in
    let count = c.count_nonzeros.ensures.value ∙ ap nonzeros coded in
    λ i. record { error = error i; count = count i }
