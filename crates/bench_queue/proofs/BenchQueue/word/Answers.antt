use mathlib.Core.Path.{subst}
use Prim.Native.Nat.{ℕ, ◌≤◌, ◌<◌}
use Rattle.bench_queue.specs.Calls.{word_of}
use Rattle.bench_queue.proofs.Range.{ranged}
use Rattle.bench_queue.proofs.Next.{nobody-waits, somebody-waits}
use Rattle.bench_queue.proofs.BenchQueue.word.Goals as goal

pub next_bench-requires : goal.next_bench-requires
next_bench-requires c =
    let r = ranged _ c.requires in record { last_lt_benches = r.inside; benches_bound = r.few }

pub returns-then-next_bench-self : goal.returns-then-next_bench-self
unfolding word_of
returns-then-next_bench-self c =
    let s = c.args.self in let n = subst (λ (x : ℕ). x < s.benches) c.next_bench.ensures c.if-next_bench-self.true in
    simp (somebody-waits s (ranged s c.requires).few n)

pub returns-else-next_bench-self : goal.returns-else-next_bench-self
unfolding word_of
returns-else-next_bench-self c =
    let s = c.args.self in let n = subst (λ (x : ℕ). s.benches ≤ x) c.next_bench.ensures c.if-next_bench-self.false in
    simp (nobody-waits s (ranged s c.requires) n)
