use mathlib.Core.Path.{refl}
use Rattle.gains.specs.Gains.{mirror, mirrored, upper, gains}
use Rattle.gains.proofs.islow_gains.Goals as goal

pub returns : goal.returns
unfolding mirror mirrored upper gains
returns c = refl
