use mathlib.Core.Path.{sym, ◌∙◌}
use native.Mathlib.Omega.{arith}
use Rattle.bench_queue.specs.Calls.{block_limit}
use Rattle.bench_queue.proofs.Range.{ranged, in-range}
use Rattle.bench_queue.proofs.Blocks.{after-ranged}
use Rattle.bench_queue.proofs.Words.{coded-block_limit}
use Rattle.bench_queue.proofs.BenchQueue.turn.Goals as goal

pub code_blocks-listed-requires-clause-l_bound : goal.code_blocks-listed-requires-clause-l_bound
unfolding block_limit
code_blocks-listed-requires-clause-l_bound c = omega arith

pub overflow_cast-result : goal.overflow_cast-result
unfolding block_limit
overflow_cast-result c = omega (arith, coded-block_limit c.block_limit.result c.args.self)

pub word-requires : goal.word-requires
word-requires c =
    rw c.code_blocks-listed.ensures.state_value (in-range _ (after-ranged _ _ (ranged _ (sym c.in_range.ensures ∙ c.if-not-in_range.false))))
