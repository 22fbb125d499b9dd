use Prim.Native.Nat.{◌*◌, ◌≤◌}
use mathlib.Core.Path.{◌≡◌}
use mathlib.Core.List.{[]}
use lib.ListN.{get_or}
use lib.IntN.{pos}
use Rattle.lists.specs.Tab.{tab}
use Rattle.clamping.specs.Counts.{counted, tally_one}
use Rattle.idct_8x8.proofs.row_pass.tally_column.Given as goal

abbrev pub invariant-loop-y : goal.invariant-loop-y
invariant-loop-y g l = record {
  value : l.t ≡ counted tally_one (tab l.y (λ y. get_or (g.T.Number.values (get_or l.r y [])) l.x (pos 0)));
  few : l.t ≤ 256 * l.y;
}
