use mathlib.Core.Path.{sym, ap, subst, ◌∙◌}
use Prim.Native.Nat.{◌<◌, ◌^◌}
use lib.IntN.{ℤ, nat_abs}
use mir.Syntax.{w16}
use mir.ValLaws.{to_z-of_z}
use Rattle.integers.proofs.Bound.{small-fits}
use Rattle.quantize.specs.Quantize.{coefficient}
use Rattle.transform.proofs.Words.{difference-fits, scaled_fits, product, product-size}
use Rattle.transform.proofs.constant.constant_dc.Goals as goal

pub returns : goal.returns
returns c =
    let called = c.quantize in
    let back = to_z-of_z w16 called.result (small-fits w16 called.result called.ensures.result_bound) in record {
      value = back ∙ called.ensures.value ∙ ap (λ (z : ℤ). coefficient z c.args.quantizer) (product c.args.sample c.ranges.sample.fits);
      result_bound = subst (λ (z : ℤ). nat_abs z < 2 ^ 15) (sym back) called.ensures.result_bound;
    }

pub overflow_sub-sample : goal.overflow_sub-sample
overflow_sub-sample c = difference-fits c.args.sample c.ranges.sample.fits

pub overflow_mul-sample : goal.overflow_mul-sample
overflow_mul-sample c = scaled_fits c.args.sample c.ranges.sample.fits

pub quantize-requires : goal.quantize-requires
quantize-requires c = product-size c.args.sample c.ranges.sample.fits
