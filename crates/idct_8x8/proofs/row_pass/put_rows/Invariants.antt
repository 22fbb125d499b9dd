use Prim.Native.Nat.{◌*◌, ◌≤◌}
use mathlib.Core.Path.{◌≡◌}
use Rattle.lists.specs.Tab.{tab}
use Rattle.clamping.specs.Clamping.{sample_u8}
use Rattle.clamping.specs.Counts.{counted, tally_one}
use Rattle.passes.specs.Passes.{eight, row_pass}
use Rattle.block.specs.Block.{column}
use Rattle.block.proofs.Rows.{Stored}
use Rattle.block.proofs.Counts.{added}
use Rattle.idct_8x8.proofs.row_pass.put_rows.Given as goal

abbrev pub invariant-loop-row : goal.invariant-loop-row
invariant-loop-row g l = Stored (row_pass eight) sample_u8 8 l.w l.row l.output

-- the first x columns are counted
abbrev pub invariant-loop-x : goal.invariant-loop-x
invariant-loop-x g l = record {
  value : l.t ≡ added (tab l.x (λ k. counted tally_one (column g.T.Number.values l.passed k)));
  few : l.t ≤ 2048 * l.x;
}
