use Prim.Native.Nat.{◌+◌, ◌-◌, ◌/◌}
use Rattle.plane.specs.Scale.{cropped}
use Rattle.plane.proofs.decode.Scale.cropped.Goals as goal

pub returns-clause-value : goal.returns-clause-value
unfolding cropped
returns-clause-value c = λ i. (c.args.n + (c.by-by.ensures.value i - 1)) / c.by-by.ensures.value i
