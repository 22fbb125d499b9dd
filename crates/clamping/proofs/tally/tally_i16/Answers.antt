use Rattle.std.proofs.Common.{◌∙◌, ◌+◌, ◌*◌, pos}
use mir.Facts.{to_z-of_z}
use lib.IntN.{negsuc}
use lib.Signed.{lt_z}
use Rattle.std.specs.Int.{from_bool}
use Rattle.clamping.proofs.ByRule.{tally-16}
use Rattle.clamping.proofs.tally.tally_i16.Goals as goal

pub returns : goal.returns
returns c =
    let v = to_z-of_z c.ranges.value in
    (λ i. c.from.ensures i + 256 * c.from-2.ensures i) ∙ (λ i. from_bool (lt_z (v i) (negsuc 127)) + 256 * from_bool (lt_z (pos 127) (v i))) ∙ tally-16 c.args.value c.ranges.value
