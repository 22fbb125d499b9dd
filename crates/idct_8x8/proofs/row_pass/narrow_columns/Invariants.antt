use mathlib.Core.List.{[]}
use lib.ListN.{get_or}
use Rattle.lists.proofs.Tab.{Filled}
use Rattle.idct_8x8.proofs.row_pass.narrow_columns.Given as goal

abbrev pub invariant-loop-column : goal.invariant-loop-column
invariant-loop-column l = Filled (λ i. get_or l.w i []) 8 l.column l.r
