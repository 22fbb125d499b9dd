use Rattle.recode_pgm.proofs.Calls.{answer-status, both}
use Rattle.recode_pgm.proofs.strip.recode_through.Goals as goal

pub returns : goal.returns
returns c =
    let forward = c.fdct_quantize_plane in
    let inverse = c.islow_plane in
    both _ _ _ c.requires.plane_of c.args.coefficients.now c.args.out.now c.requires.coefficients_len.0 c.requires.coefficients_len.1 forward.auto.out (forward.ensures.value, forward.ensures.out_after) (answer-status _ _ _ inverse.result inverse.ensures.value, inverse.ensures.out_after)
