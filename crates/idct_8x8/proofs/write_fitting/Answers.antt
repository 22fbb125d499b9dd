use mathlib.Core.Path.{ap, ◌∙◌}
use mathlib.Core.List.{List}
use lib.IntN.{ℤ}
use Rattle.clamping.specs.Counts.{counted, tally_one}
use Rattle.passes.specs.Passes.{eight}
use Rattle.block.specs.Block.{block, first_rows}
use Rattle.block.specs.Clamped.{unclamped}
use Rattle.block.proofs.Rows.{first-twice}
use Rattle.idct_8x8.proofs.write_fitting.Goals as goal

pub returns : goal.returns
returns g c =
    let cut = ap (first_rows g.row.ROWS) c.narrow.ensures ∙ first-twice g.row.ROWS c.args.numbers.now in
    record {
      value = c.write_16.ensures.value ∙ ap (λ (xs : List ℤ). counted tally_one (unclamped eight xs)) cut;
      output_after = c.write_16.ensures.output_after ∙ ap (block eight) cut;
    }
