use mathlib.Core.Path.{◌≡◌}
use lib.ListN.{take}
use Rattle.lists.specs.Every.{every}
use Rattle.lists.specs.Tab.{tab}
use Rattle.block.specs.Block.{row_of}
use Rattle.idct_8x8.proofs.Shortcut.{full}
use Rattle.idct_8x8.proofs.row_pass.no_shortcut.Given as goal

abbrev pub invariant-loop-y : goal.invariant-loop-y
invariant-loop-y l = l.all ≡ every full (take l.y (tab 8 (row_of l.w)))
