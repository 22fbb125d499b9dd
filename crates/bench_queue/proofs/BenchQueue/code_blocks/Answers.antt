use Prim.Native.Nat.{ℕ, ◌≤◌, ◌<◌}
use mathlib.Core.Path.{sym, subst}
use native.Mathlib.Omega.{arith}
use Rattle.bench_queue.specs.State.{waiting_at}
use Rattle.bench_queue.proofs.Range.{ranged}
use Rattle.bench_queue.proofs.Next.{next-waits}
use Rattle.bench_queue.proofs.Blocks.{running, more-running, finished, after-idle, coded-idle, after_none, coded_none}
use Rattle.bench_queue.proofs.BenchQueue.code_blocks.Goals as goal

pub loop-listed-init : goal.loop-listed-init
loop-listed-init c = let p = c.requires in running _ _ _ (ranged _ p.self_value) p.out_len

-- nobody waits
pub returns-then-state-b : goal.returns-then-state-b
returns-then-state-b c =
    let l = c.loop-listed in let idle = subst (λ (x : ℕ). l.state.benches ≤ x) c.next_bench-b.ensures c.if-state-b.true in let all = finished _ _ _ _ _ _ l.invariant (after-idle _ _ idle) (coded-idle _ _ idle) c.requires.l_bound in record { state_value = all.0; listed_value = all.1.0; out_after = all.1.1 }

-- all are coded
pub returns : goal.returns
returns c =
    let l = c.loop-listed in let all = finished _ _ _ _ _ _ l.invariant (after_none _ _ (omega arith)) (coded_none _ _ (omega arith)) c.requires.l_bound in record { state_value = all.0; listed_value = omega (arith, all.1.0); out_after = all.1.1 }

pub serve-state-requires-clause-b_nonzero : goal.serve-state-requires-clause-b_nonzero
serve-state-requires-clause-b_nonzero c =
    let e = c.next_bench-b.ensures in let s = c.loop-listed.state in subst (λ (x : ℕ). 0 < waiting_at s x) (sym e) (next-waits s (subst (λ (x : ℕ). x < s.benches) e c.if-state-b.false))

pub loop-listed-preserved : goal.loop-listed-preserved
loop-listed-preserved c =
    let l = c.loop-listed in let next = more-running _ _ _ _ _ _ l.invariant c.next_bench-b.result c.requires.l_bound (omega arith) c.next_bench-b.ensures c.if-state-b.false in
    rw c.serve-state.ensures next
