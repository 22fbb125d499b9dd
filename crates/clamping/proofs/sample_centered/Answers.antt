use Rattle.std.proofs.Common.{w32, lit<}
use Rattle.clamping.specs.Clamping.{sample_centered}
use Rattle.clamping.proofs.Clamp.{centered-read}
use Rattle.clamping.proofs.sample_centered.Goals as goal

pub returns : goal.returns
unfolding sample_centered
returns c = centered-read w32 128 c.ranges.value (lit< tt) c.clamp.ensures.value
