use mathlib.Core.Path.{◌≡◌}
use Prim.Native.Nat.{suc, ◌≤◌}
use Rattle.std.specs.Prelude.{IfSome}
use Rattle.lists.specs.Tab.{tab}
use Rattle.fewest.specs.Fewest.{best}
use Rattle.fewest.specs.Told.{found_in}
use Rattle.fewest.specs.Blocks.{errors_in, counts_in, at_percent}
use Rattle.fewest.proofs.choice.best_percent.Given as goal

abbrev pub invariant-loop-p : goal.invariant-loop-p
invariant-loop-p l = record {
  inside : IfSome l.found (λ q. (1 ≤ q) × (q ≤ l.p));
  best : found_in l.found ≡ best l.limit (at_percent (errors_in l.all)) (at_percent (counts_in l.all)) (tab l.p suc);
}
