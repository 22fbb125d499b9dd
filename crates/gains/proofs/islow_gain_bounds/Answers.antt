use mathlib.Core.Path.{refl}
use Rattle.integers.specs.Linear.{weight}
use Rattle.gains.specs.Gains.{mirror, mirrored, upper, gains, maximum, largest_gain, largest_l1}
use Rattle.gains.specs.Bounds.{gain_bounds}
use Rattle.gains.proofs.islow_gain_bounds.Goals as goal

pub returns : goal.returns
unfolding weight mirror mirrored upper gains maximum largest_gain largest_l1 gain_bounds
returns c = refl
