use mathlib.Core.Path.{◌≡◌}
use lib.ListN.{take}
use Rattle.lists.specs.Every.{every}
use Rattle.lists.specs.Tab.{tab}
use Rattle.block.specs.Block.{column_of, first_rows}
use Rattle.idct_8x8.proofs.Shortcut.{full}
use Rattle.idct_8x8.proofs.column_pass.no_shortcut.Given as goal

abbrev pub invariant-loop-u : goal.invariant-loop-u
invariant-loop-u g l = l.all ≡ every full (take l.u (tab 8 (column_of (first_rows g.row.ROWS l.input))))
