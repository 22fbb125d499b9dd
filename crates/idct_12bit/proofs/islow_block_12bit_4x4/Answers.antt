use mathlib.Core.Path.{◌≡◌, ap, ◌∙◌}
use borrow.Author.Rules.{rules}
use mir.Syntax.{w64}
use Rattle.gains.specs.Gains.{gains4}
use Rattle.passes.specs.Passes.{four, pass}
use Rattle.refusals.specs.Refusals.{written}
use Rattle.block.specs.Block.{columns}
use Rattle.idct_12bit.proofs.Block.{block_made}
use Rattle.idct_12bit.proofs.islow_block_12bit_4x4.Goals as goal

pub returns-clause-output_after : goal.returns-clause-output_after
unfolding four written
returns-clause-output_after c =
    let same : c.in_ok-input.input.now ≡ c.args.input.now = search rules in
    block_made four c.args.input.now (c.columns_4.ensures ∙ ap (columns (pass w64 gains4 13)) same) c.rows_4.ensures
