use mathlib.Core.Path.{◌≡◌}
use lib.Dec.{leb}
use Rattle.lists.specs.Below.{below}
use Rattle.bench_queue.specs.State.{waiting_at, most_waiting}
use Rattle.bench_queue.proofs.BenchQueue.counts_fit.Given as goal

abbrev pub invariant-loop-b : goal.invariant-loop-b
invariant-loop-b l = l.fit ≡ below l.b (λ k. leb (waiting_at l.self k) (most_waiting l.self.benches k))
