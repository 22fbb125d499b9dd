use Rattle.std.proofs.Common.{◌∙◌, ◌+◌, ◌*◌, pos, w32}
use mir.Facts.{to_z-of_z}
use lib.Signed.{lt_z}
use Rattle.std.specs.Int.{from_bool}
use Rattle.integers.proofs.Wrap.{wrap-read}
use Rattle.clamping.specs.Rule.{rule_u8}
use Rattle.clamping.proofs.ByRule.{tally_is}
use Rattle.clamping.proofs.tally.tally_i32.Goals as goal

pub returns : goal.returns
unfolding rule_u8
returns c =
    let sum = wrap-read w32 _ (rw (to_z-of_z c.ranges.value) at c.add-sum.ensures) in
    (λ i. c.from.ensures i + 256 * c.from-2.ensures i) ∙ (λ i. from_bool (lt_z (sum i) (pos 0)) + 256 * from_bool (lt_z (pos 255) (sum i))) ∙ tally_is 255 _
