use Prim.Native.Nat.{ℕ, ◌<◌}
use mir.Syntax.{w32}
use Rattle.integers.specs.Fits16.{Fits16}
use Rattle.lists.specs.Every.{Every}
use Rattle.lists.proofs.Tab.{Filled}
use Rattle.gains.specs.Gains.{gains}
use Rattle.passes.specs.Passes.{pass}
use Rattle.block.specs.Block.{column_of, first_rows}
use Rattle.idct_8x8.proofs.column_pass.islow_columns.Given as goal

abbrev pub invariant-loop-u : goal.invariant-loop-u
invariant-loop-u g l = record {
  value : Filled (λ k. pass w32 gains l.shift (column_of (first_rows g.row.ROWS l.input) k)) 8 l.u l.w;
  fit : (k : ℕ) → k < l.u → Every Fits16 (column_of (first_rows g.row.ROWS l.input) k);
}
