use Rattle.bench_queue.proofs.Blocks.{Running}
use Rattle.bench_queue.proofs.BenchQueue.code_blocks.Given as goal

abbrev pub invariant-loop-listed : goal.invariant-loop-listed
invariant-loop-listed l = Running l.l l.initial.state l.initial.out l.listed l.state l.out
