use Rattle.std.proofs.Common.{ap, ◌∙◌, w32, lit<}
use lib.IntN.{nat_abs}
use mir.Facts.{to_z-of_z}
use Rattle.integers.proofs.Wrap.{wrap-read}
use Rattle.clamping.specs.Clamping.{sample_u8}
use Rattle.clamping.specs.Rule.{rule_to, rule_u8, sampled_u8}
use Rattle.clamping.proofs.Clamp.{clamp-read}
use Rattle.clamping.proofs.sample_u8.Goals as goal

pub returns : goal.returns
unfolding sample_u8 rule_u8 sampled_u8
returns c =
    let sum = wrap-read w32 _ (rw (to_z-of_z c.ranges.value) at c.add-sum.ensures) in
    let sample = ap nat_abs (clamp-read w32 255 (lit< tt) sum c.clamp.ensures.value) in
    let rule = c.rule_of.ensures ∙ ap (rule_to 255) sum in
    λ i. record { sample = sample i; rule = rule i }
