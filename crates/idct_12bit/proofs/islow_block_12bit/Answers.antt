use mathlib.Core.Path.{◌≡◌, ap, ◌∙◌}
use borrow.Author.Rules.{rules}
use mir.Syntax.{w64}
use lib.ListN.{length}
use Rattle.gains.specs.Gains.{gains}
use Rattle.passes.specs.Passes.{eight, pass}
use Rattle.refusals.specs.Refusals.{written}
use Rattle.block.specs.Block.{columns, first_rows}
use Rattle.block.proofs.Exact.{columns-narrow}
use Rattle.block.proofs.Rows.{first-all}
use Rattle.idct_12bit.proofs.Block.{block_made}
use Rattle.idct_12bit.proofs.islow_block_12bit.Goals as goal

pub returns-clause-output_after : goal.returns-clause-output_after
unfolding eight written
returns-clause-output_after c =
    let xs = c.args.input.now in
    let same : c.in_ok-input.input.now ≡ xs = search rules in
    let long : length xs ≡ 64 = search rules in
    let read = ap (first_rows 8) same ∙ first-all xs long in
    block_made eight xs (c.islow_columns.ensures.value ∙ columns-narrow _ c.islow_columns.ensures.by_index ∙ ap (columns (pass w64 gains 12)) read) c.rows_8.ensures
