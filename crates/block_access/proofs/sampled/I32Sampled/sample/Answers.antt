use mathlib.Core.Path.{ap, ◌∙◌}
use mir.Syntax.{w32}
use mir.ValLaws.{to_z-of_z}
use Rattle.clamping.specs.Clamping.{sample_u8}
use Rattle.clamping.specs.Rule.{sampled_u8}
use Rattle.clamping.specs.declared.Sample.{Sample}
use Rattle.block_access.proofs.sampled.I32Sampled.sample.Goals as goal

pub returns : goal.returns
unfolding sampled_u8
returns c = ap (λ (s : Sample). s.sample) c.sample_u8.ensures ∙ ap sample_u8 (to_z-of_z w32 c.args.self c.ranges.self)
