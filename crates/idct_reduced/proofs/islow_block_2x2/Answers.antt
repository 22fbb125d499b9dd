use mathlib.Core.Path.{◌≡◌, ap, ◌∙◌}
use mathlib.Core.List.{List}
use borrow.Author.Rules.{rules}
use lib.Dec.{lit≤}
use lib.ListN.{length}
use lib.IntN.{ℤ}
use Rattle.clamping.specs.Counts.{counted, tally_one}
use Rattle.passes.specs.Passes.{two}
use Rattle.block.specs.Block.{inverse_tests}
use Rattle.block.specs.Clamped.{unclamped}
use Rattle.block.proofs.Counts.{entry-answered}
use Rattle.refusals.proofs.Refusals.{has, ◌then◌}
use Rattle.idct_reduced.proofs.islow_block_2x2.Goals as goal

pub returns-clause-value : goal.returns-clause-value
unfolding two
returns-clause-value c =
    let xs = c.args.input.now in
    let same : c.in_ok-input.input.now ≡ xs = search rules in
    let long : length xs ≡ 64 = search rules in
    entry-answered two xs (lit≤ tt) c.clamped.ensures (inverse_tests 4 xs c.args.output.now) (has long then search rules then tt)
    (c.write_2x2_short.ensures.counts ∙ ap (λ (ys : List ℤ). counted tally_one (unclamped two ys)) same)
