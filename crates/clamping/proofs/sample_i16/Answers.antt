use Rattle.std.proofs.Common.{sym, ap, pos, ◌∙◌, ◌+ℤ◌, w16, to_z, of_z, rules}
use lib.IntN.{nat_abs}
use mir.Val.{SFits}
use mir.ValLaws.{to_z-of_z}
use Rattle.std.specs.Int.{int_min, int_max}
use Rattle.clamping.specs.Clamping.{sample_u8, clamp_to}
use Rattle.clamping.proofs.Clamp.{held-is}
use Rattle.clamping.proofs.ByRule.{sum-16}
use Rattle.clamping.proofs.sample_i16.Goals as goal

pub returns : goal.returns
unfolding sample_u8
returns c =
    let v = to_z-of_z w16 c.args.value c.ranges.value in
    let m = to_z-of_z w16 c.min.result (record { sfits = c.min.type_inv }) in
    let fits : SFits w16 (to_z w16 (of_z w16 c.min.result) +ℤ pos 128) = search rules in
    let held = c.min.ensures.value ∙ ap (λ z. int_min z (pos 127)) v in
    let sum = to_z-of_z w16 _ fits ∙ ap (λ z. z +ℤ pos 128) (m ∙ held) in
    let r = c.max.ensures.value ∙ ap (λ z. int_max z (pos 0)) sum ∙ held-is c.args.value in
    ap nat_abs (to_z-of_z w16 _ (record { sfits = c.max.type_inv }) ∙ r) ∙ ap (clamp_to 255) (sym (sum-16 c.args.value c.ranges.value))
