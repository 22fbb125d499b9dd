-- Each block adds at most 64 to each count.
use Rattle.std.proofs.Common.{◌≤◌, ◌*◌}
use Rattle.near_half.proofs.main.Given as goal

abbrev pub invariant-loop : goal.invariant-loop
invariant-loop l = (l.blocks ≤ l.counter) × (l.guards ≤ 64 * l.counter) × (l.differences ≤ 64 * l.counter)
