use mathlib.Core.Path.{◌∙◌}
use Rattle.passes.specs.Passes.{eight}
use Rattle.block.specs.Block.{first_rows}
use Rattle.block.proofs.Column.{columns-eight}
use Rattle.block.proofs.Counts.{columns-made}
use Rattle.idct_8x8.proofs.write_16.Goals as goal

pub returns : goal.returns
unfolding eight
returns g c =
    let made = columns-made eight (first_rows g.row.ROWS c.args.input.now) (c.islow_columns.ensures.value ∙ columns-eight _ c.islow_columns.ensures.by_index) (c.rows.ensures.value, c.rows.ensures.output_after) in
    record { value = made.0; output_after = made.1 }
