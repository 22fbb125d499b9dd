use mathlib.Core.Path.{sym, ap, subst, ◌∙◌}
use mathlib.Core.List.{List}
use Prim.Native.Nat.{◌*◌, ◌^◌, ◌≤◌}
use native.Mathlib.Omega.{arith}
use lib.ListN.{get_or}
use lib.IntN.{ℤ, pos, nat_abs}
use Rattle.lists.specs.Tab.{tab}
use Rattle.forward.specs.Forward.{quantized_sum}
use Rattle.forward.proofs.Canonical.{block-coefficients}
use Rattle.forward.proofs.Samples.{centred-small}
use Rattle.fdct.proofs.write_centred.Goals as goal

pub write_coefficients-requires : goal.write_coefficients-requires
write_coefficients-requires c =
    let level = c.requires.level in record {
      centred = λ i. subst (λ (l : List ℤ). nat_abs (get_or l i (pos 0)) ≤ 2 ^ 11) (sym c.level_shift-samples.ensures)
          (omega (arith, level.low, centred-small (2 * c.args.centre) c.args.centre (omega arith) c.args.block.now level.most i));
      out_len = c.requires.out_len;
    }

pub returns : goal.returns
returns c =
    c.write_coefficients.ensures ∙ ap (λ (samples : List ℤ). tab 64 (quantized_sum samples c.args.quant.now)) c.level_shift-samples.ensures ∙ block-coefficients _ _ _
