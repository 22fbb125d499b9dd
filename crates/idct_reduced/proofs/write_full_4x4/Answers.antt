use Rattle.passes.specs.Passes.{four}
use Rattle.block.proofs.Counts.{columns-made}
use Rattle.idct_reduced.proofs.write_full_4x4.Goals as goal

pub returns : goal.returns
unfolding four
returns c =
    let made = columns-made four c.args.input.now c.columns_4.ensures (c.rows_4.ensures.value, c.rows_4.ensures.output_after) in record { value = made.0; output_after = made.1 }
