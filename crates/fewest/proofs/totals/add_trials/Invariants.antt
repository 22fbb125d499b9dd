use mathlib.Core.Path.{◌≡◌}
use mathlib.Core.List.{List}
use Prim.Native.Nat.{ℕ, ◌-◌, ◌*◌, ◌≤◌, ◌<◌}
use lib.IntN.{ℤ}
use Rattle.fewest.specs.Blocks.{table_of, block_trial, errors_in, counts_in}
use Rattle.fewest.specs.declared.Trial.{Trial}
use Rattle.fewest.proofs.Growing.{Grew}
use Rattle.fewest.proofs.totals.add_trials.Given as goal

abbrev pub at : ℕ → ℕ → List ℕ → List ℤ → List ℕ → ℕ → Trial
at columns rows block sums tables p = block_trial columns rows block sums (table_of tables p)

abbrev pub invariant-loop-p : goal.invariant-loop-p
invariant-loop-p l = record {
  errors : Grew (λ k. (at l.block.columns l.block.rows l.block.block l.block.sums l.tables k).error) (errors_in l.initial.all) l.p (errors_in l.all);
  counts : Grew (λ k. (at l.block.columns l.block.rows l.block.block l.block.sums l.tables k).count) (counts_in l.initial.all) l.p (counts_in l.all);
  last : 0 < l.p → l.trial ≡ at l.block.columns l.block.rows l.block.block l.block.sums l.tables (l.p - 1);
  small : (l.trial.error ≤ 64 * 65025) × (l.trial.count ≤ 64);
}
