use mathlib.Core.Path.{ap, ◌∙◌}
use mathlib.Core.List.{List}
use lib.IntN.{ℤ}
use Rattle.clamping.specs.Counts.{counted, tally_one}
use Rattle.passes.specs.Passes.{eight}
use Rattle.block.specs.Block.{block}
use Rattle.block.specs.Clamped.{unclamped}
use Rattle.block.proofs.Rows.{first-all}
use Rattle.idct_8x8.proofs.write_i32.Goals as goal

pub returns : goal.returns
returns c =
    let all = first-all c.args.numbers.now c.requires.0 in
    record {
      value = c.write_i32_rows.ensures.value ∙ ap (λ (xs : List ℤ). counted tally_one (unclamped eight xs)) all;
      output_after = c.write_i32_rows.ensures.output_after ∙ ap (block eight) all;
    }
