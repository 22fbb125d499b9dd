use mathlib.Core.Path.{◌≡◌}
use lib.ListN.{take}
use Rattle.integers.specs.Fits16.{fits16}
use Rattle.lists.specs.Every.{every}
use Rattle.block_access.proofs.fit_16.all_fit.Given as goal

abbrev pub invariant-loop-x : goal.invariant-loop-x
invariant-loop-x l = l.all ≡ every fits16 (take l.x-index l.values)
