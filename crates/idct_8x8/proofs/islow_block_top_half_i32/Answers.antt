use mathlib.Core.Path.{◌≡◌, ap, ◌∙◌}
use mathlib.Core.List.{List}
use borrow.Author.Rules.{rules}
use lib.Dec.{lit≤}
use lib.ListN.{length}
use lib.IntN.{ℤ}
use Rattle.clamping.specs.Counts.{counted, tally_one}
use Rattle.passes.specs.Passes.{eight}
use Rattle.block.specs.Block.{first_rows, inverse_tests}
use Rattle.block.specs.Clamped.{unclamped}
use Rattle.block.proofs.Counts.{entry-answered}
use Rattle.refusals.proofs.Refusals.{has, ◌then◌}
use Rattle.idct_8x8.proofs.islow_block_top_half_i32.Goals as goal

pub returns-clause-value : goal.returns-clause-value
unfolding eight
returns-clause-value c =
    let xs = c.args.input.now in
    let same : c.in_ok-input.input.now ≡ xs = search rules in
    let long : length xs ≡ 64 = search rules in
    entry-answered eight (first_rows 4 xs) (lit≤ tt) c.clamped.ensures (inverse_tests 64 xs c.args.output.now) (has long then search rules then tt)
    (c.write_i32_rows.ensures.value ∙ ap (λ (ys : List ℤ). counted tally_one (unclamped eight ys)) (ap (first_rows 4) same))
