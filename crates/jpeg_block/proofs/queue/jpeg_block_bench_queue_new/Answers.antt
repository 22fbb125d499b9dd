use mathlib.Core.Path.{ap, ◌∙◌}
use Rattle.refusals.proofs.Numbers.{stopped, went-on}
use Rattle.bench_queue.specs.Told.{Updated}
use Rattle.bench_queue.specs.Calls.{new_answer}
use Rattle.jpeg_block.proofs.Handed.{of-ok, of-err}
use Rattle.jpeg_block.proofs.queue.jpeg_block_bench_queue_new.Goals as goal

pub returns-in-Ok-clause-value : goal.returns-in-Ok-clause-value
unfolding new_answer
returns-in-Ok-clause-value c =
    c.status.ensures ∙ went-on _ _ tt (of-ok c.in-Ok.is (ap (λ (u : Updated). u.status) c.new-made.ensures)) c.put_new.ensures.value

pub returns-in-Err-clause-value : goal.returns-in-Err-clause-value
unfolding new_answer
returns-in-Err-clause-value c = stopped _ _ tt _ c.number.ensures (of-err c.in-Err.is (ap (λ (u : Updated). u.status) c.new-made.ensures))
