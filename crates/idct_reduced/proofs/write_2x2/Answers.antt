use Rattle.passes.specs.Passes.{two}
use Rattle.block.proofs.Counts.{columns-made}
use Rattle.idct_reduced.proofs.write_2x2.Goals as goal

pub returns : goal.returns
unfolding two
returns c =
    let made = columns-made two c.args.input.now c.columns_2.ensures (c.rows_2.ensures.value, c.rows_2.ensures.output_after) in record { value = made.0; output_after = made.1 }
