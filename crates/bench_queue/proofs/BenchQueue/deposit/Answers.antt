use mathlib.Core.Path.{sym, ◌∙◌}
use Prim.Native.Nat.{◌+◌, ◌≤◌, ◌<◌}
use native.Mathlib.Omega.{arith}
use borrow.Author.Tests.{lt-ltb, le-leb}
use Rattle.refusals.specs.Refusals.{status, written}
use Rattle.bench_queue.specs.State.{waiting_at, queued}
use Rattle.bench_queue.specs.Calls.{deposit_answer}
use Rattle.bench_queue.proofs.Range.{ranged, count_small}
use Rattle.bench_queue.proofs.BenchQueue.deposit.Goals as goal

small : (c : goal.Else-self-bench) → (c.args.bench < 8) × (waiting_at c.args.self c.args.bench ≤ 65535)
small c =
    let r = ranged _ (sym c.in_range.ensures ∙ c.if-not-in_range.false) in
    (omega (arith, r.few), count_small _ _ r c.if-self-bench.false)

pub bounds-self-bench : goal.bounds-self-bench
bounds-self-bench c = omega (arith, small c)

pub overflow_sub-waiting : goal.overflow_sub-waiting
overflow_sub-waiting c = omega (arith, small c.before)

pub bounds-self-bench-2 : goal.bounds-self-bench-2
bounds-self-bench-2 c = omega (arith, small c.before.before)

pub returns : goal.returns
unfolding deposit_answer queued status written
returns c =
    let less : waiting_at c.args.self c.args.bench + c.args.blocks ≤ 65535 = omega (arith, small c.before.before) in
    simp (sym c.in_range.ensures ∙ c.if-not-in_range.false, lt-ltb _ _ c.if-self-bench.false, le-leb _ _ less)
