use mathlib.Core.Path.{◌≡◌, ap, ◌∙◌}
use borrow.Author.Rules.{rules}
use mir.Syntax.{w64}
use mathlib.Core.List.{List}
use lib.ListN.{replicate}
use lib.IntN.{ℤ, pos}
use Rattle.gains.specs.Gains.{gains2, skipped2}
use Rattle.clamping.specs.Clamping.{sample12bit}
use Rattle.passes.specs.Passes.{two, pass}
use Rattle.refusals.specs.Refusals.{written}
use Rattle.block.specs.Block.{block12bit, columns, without}
use Rattle.block.proofs.Unread.{two-pass, samples-without}
use Rattle.idct_12bit.proofs.islow_block_12bit_2x2.Goals as goal

pub returns-clause-output_after : goal.returns-clause-output_after
unfolding two block12bit written
returns-clause-output_after c =
    let same : c.in_ok-input.input.now ≡ c.args.input.now = search rules in
    let read = ap (λ (xs : List ℤ). without (replicate 2 (pos 0)) skipped2 (columns (pass w64 gains2 14) xs)) same in
    samples-without skipped2 (pass w64 gains2 14) (pass w64 gains2 19) sample12bit 2 (two-pass w64 19) c.args.input.now (replicate 2 (pos 0)) (c.columns_2.ensures.value ∙ read) c.rows_2.ensures
