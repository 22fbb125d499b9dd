use mathlib.Core.Path.{◌≡◌}
use lib.ListN.{take}
use Rattle.integers.specs.Fits16.{fits16}
use Rattle.lists.specs.Every.{every}
use Rattle.block_access.proofs.fit_16.columns_fit.Given as goal

abbrev pub invariant-loop-column : goal.invariant-loop-column
invariant-loop-column g l = l.all ≡ every (every fits16) (take l.column-index l.w)
