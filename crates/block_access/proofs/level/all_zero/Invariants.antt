use mathlib.Core.Path.{◌≡◌}
use lib.ListN.{take}
use Rattle.block.specs.Level.{is_zero, zeros}
use Rattle.block_access.proofs.level.all_zero.Given as goal

abbrev pub invariant-loop-x : goal.invariant-loop-x
invariant-loop-x g l = is_zero (g.T.Number.value l.bits) ≡ zeros (take l.x-index (g.T.Number.values l.values))
