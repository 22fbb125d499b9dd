use mathlib.Core.Path.{refl}
use Rattle.jpeg_block.proofs.Counted.{call-stopped, call-made}
use Rattle.jpeg_block.proofs.inverse.jpeg_block_islow_block_4x4.Goals as goal

pub returns-in-Err : goal.returns-in-Err
returns-in-Err c =
    let all = call-stopped _ _ _ _ _ c.in-Err.refusal c.number.ensures c.in-Err.ensures in record { value = all.0; output_after = all.1.0; counts_after = all.1.1 }

pub returns-in-Ok : goal.returns-in-Ok
returns-in-Ok c =
    let all = call-made _ _ _ _ tt _ _ c.in_default.ensures refl (c.in-Ok.ensures.value, c.in-Ok.ensures.output_after) c.put_counts.ensures in record { value = all.0; output_after = all.1.0; counts_after = all.1.1 }
