use mathlib.Core.Path.{refl}
use Rattle.plane.specs.Scale.{plane_inverse_tests}
use Rattle.refusals.proofs.Numbers.{err-status, stopped}
use Rattle.jpeg_block.proofs.Counted.{call-stopped, call-made}
use Rattle.jpeg_block.proofs.planes.jpeg_block_islow_plane_2x2.Goals as goal

pub returns-in-Err : goal.returns-in-Err
unfolding plane_inverse_tests
returns-in-Err c =
    let all = call-stopped _ _ _ _ _ c.in-Err.refusal c.number.ensures c.in-Err.ensures in record { value = all.0; output_after = all.1.0; counts_after = all.1.1 }

pub returns-in-Ok : goal.returns-in-Ok
unfolding plane_inverse_tests
returns-in-Ok c =
    let all = call-made _ _ _ _ tt _ _ c.in_default.ensures refl (c.in-Ok.ensures.value, c.in-Ok.ensures.out_after) c.put_counts.ensures in record { value = all.0; output_after = all.1.0; counts_after = all.1.1 }

pub returns-in-Err-islow_plane_2x2-clause-value : goal.returns-in-Err-islow_plane_2x2-clause-value
unfolding plane_inverse_tests
returns-in-Err-islow_plane_2x2-clause-value c =
    stopped _ _ tt _ c.number-in-Err-islow_plane_2x2.ensures (err-status _ _ _ _ c.in-Err-islow_plane_2x2.ensures.value)
