-- `count` counts no more records than it has turns.
use Rattle.std.proofs.Common.{◌≤◌}
use Rattle.replay.proofs.file.count.Given as goal

abbrev pub invariant-loop : goal.invariant-loop
invariant-loop g l = (l.cases ≤ l.counter) × (l.differences ≤ l.counter)
