use Prim.Native.Nat.{◌<◌, ◌-◌}
use mathlib.Core.Path.{◌≡◌}
use Rattle.bench_queue.specs.Calls.{first_waiting, next_bench}
use Rattle.bench_queue.proofs.BenchQueue.next_bench.Given as goal

abbrev pub invariant-loop : goal.invariant-loop
invariant-loop l = (l.b < l.self.benches) × (first_waiting l.self (l.self.benches - l.counter) l.b ≡ next_bench l.self)
