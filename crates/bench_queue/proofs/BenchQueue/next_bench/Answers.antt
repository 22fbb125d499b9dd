use Prim.Native.Nat.{ℕ, ◌-◌, ◌<◌}
use mathlib.Core.Path.{◌≡◌, sym, ap, subst, ◌∙◌}
use native.Mathlib.Omega.{arith}
use Rattle.bench_queue.specs.Calls.{first_waiting, next_bench}
use Rattle.bench_queue.proofs.Next.{following-lt, first_found, first-passed, first-none}
use Rattle.bench_queue.proofs.BenchQueue.next_bench.Goals as goal

pub loop-init : goal.loop-init
unfolding next_bench
loop-init c =
    let s = c.args.self in let z : s.benches - 0 ≡ s.benches = omega arith in (omega arith, ap (λ (k : ℕ). first_waiting s k s.last) z)

-- the bench looked at is one of the benches
bench : (c : goal.After-following_bench-b) → c.following_bench-b.result < c.args.self.benches
bench c =
    let l = c.loop in subst (λ (x : ℕ). x < c.args.self.benches) (sym c.following_bench-b.ensures) (following-lt _ l.b l.invariant.0)

pub bounds-self-b : goal.bounds-self-b
bounds-self-b c = omega (arith, bench c)

pub returns-then-self-b-gt0 : goal.returns-then-self-b-gt0
returns-then-self-b-gt0 c =
    let l = c.loop in first_found _ _ l.b (omega arith) c.following_bench-b.ensures c.if-self-b-gt0.true ∙ l.invariant.1

pub loop-preserved : goal.loop-preserved
loop-preserved c =
    let l = c.loop in (bench c.before.before, first-passed _ _ _ l.b (omega arith) c.following_bench-b.ensures c.if-self-b-gt0.false ∙ l.invariant.1)

pub returns : goal.returns
returns c = let l = c.loop in first-none _ _ l.b (omega arith) ∙ l.invariant.1
