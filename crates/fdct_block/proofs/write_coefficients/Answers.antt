use mathlib.Core.Path.{ap, ◌∙◌}
use Rattle.forward.specs.Parity.{parity_written}
use Rattle.forward.proofs.Parity.{four-parities}
use Rattle.fdct_block.proofs.write_coefficients.Goals as goal

pub returns : goal.returns
returns c =
    let a = c.args in let put = parity_written a.samples.now a.quant.now in
    c.write_parity-4.ensures.out_after
    ∙ ap (put 1 1) (c.write_parity-3.ensures.out_after ∙ ap (put 0 1) (c.write_parity-2.ensures.out_after ∙ ap (put 1 0) c.write_parity.ensures.out_after))
    ∙ four-parities a.samples.now a.quant.now a.out.now
