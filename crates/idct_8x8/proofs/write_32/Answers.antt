use Rattle.passes.specs.Passes.{eight}
use Rattle.block.specs.Block.{first_rows}
use Rattle.block.proofs.Counts.{columns-made}
use Rattle.idct_8x8.proofs.write_32.Goals as goal

pub returns : goal.returns
unfolding eight
returns g c =
    let made = columns-made eight (first_rows g.row.ROWS c.args.numbers.now) c.columns_i32.ensures (c.rows.ensures.value, c.rows.ensures.output_after) in
    record { value = made.0; output_after = made.1 }
