use Prim.Native.Nat.{ℕ, ◌-◌, ◌<◌}
use mathlib.Core.Path.{◌∙◌, ap, sym, subst}
use native.Mathlib.Omega.{arith}
use mir.Syntax.{w16}
use mir.ValLaws.{to_z-of_z}
use Rattle.guarded_quantizer.specs.Bitmap.{with_bit, nonzero}
use Rattle.guarded_quantizer.proofs.Bitmap.{nonzero-lt, update-bit}
use Rattle.transform.proofs.record.update_nonzero_ac.Goals as goal

pub returns : goal.returns
returns c =
    let bit = c.nonzero_bit.ensures ∙ ap nonzero (to_z-of_z w16 c.args.coefficient c.ranges.coefficient) in
    let small = subst (λ (t : ℕ). t < 2) (sym bit) (nonzero-lt c.args.coefficient) in
    update-bit c.args.bitmap (64 - c.args.zigzag) c.nonzero_bit.result c.ranges.bitmap.fits (omega arith) small
    ∙ ap (with_bit c.args.bitmap (64 - c.args.zigzag)) bit
