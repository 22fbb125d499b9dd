use mathlib.Core.Path.{refl}
use Rattle.plane.specs.Scale.{scale_of, plane_inverse_tests}
use Rattle.refusals.proofs.Numbers.{stopped, went-on}
use Rattle.jpeg_block.proofs.planes.plane_room.Goals as goal

pub returns-in-Ok : goal.returns-in-Ok
unfolding plane_inverse_tests
returns-in-Ok c =
    went-on (plane_inverse_tests (scale_of c.args.scale) c.args.coefficients.now c.args.width c.args.height c.args.quant.now c.args.output.now) _ tt c.in-Ok.ensures c.counts_room.ensures

pub returns-in-Err : goal.returns-in-Err
unfolding plane_inverse_tests
returns-in-Err c = stopped _ _ tt c.in-Err.refusal refl c.in-Err.ensures
