use mathlib.Core.Path.{◌≡◌, ap, ◌∙◌}
use Rattle.refusals.specs.Refusals.{status}
use Rattle.bench_queue.specs.Told.{Updated}
use Rattle.bench_queue.specs.Calls.{deposit_tests, deposit_answer}
use Rattle.bench_queue.specs.declared.BenchQueue.{BenchQueue}
use Rattle.jpeg_block.specs.Queue.{handed_state}
use Rattle.jpeg_block.proofs.Handed.{ten, of-ok, of-err}
use Rattle.jpeg_block.proofs.queue.jpeg_block_bench_queue_deposit.Goals as goal

pub returns-in-Ok-clause-value : goal.returns-in-Ok-clause-value
unfolding deposit_answer
returns-in-Ok-clause-value c =
    of-ok c.in-Ok.is (ap (λ (u : Updated). u.status) c.deposit-deposited.ensures) ∙ ap (λ (q : BenchQueue). status (deposit_tests q c.args.bench c.args.blocks)) c.handed_state.ensures ∙ ten _ _ c.if-state-ne10.false

pub returns-in-Err-clause-value : goal.returns-in-Err-clause-value
unfolding deposit_answer
returns-in-Err-clause-value c =
    c.number-in-Err.ensures ∙ of-err c.in-Err.is (ap (λ (u : Updated). u.status) c.deposit-deposited.ensures) ∙ ap (λ (q : BenchQueue). status (deposit_tests q c.args.bench c.args.blocks)) c.handed_state.ensures ∙ ten _ _ c.if-state-ne10.false
