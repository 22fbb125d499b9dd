use mathlib.Core.Path.{ap, ◌∙◌}
use mathlib.Core.List.{[], ◌∷◌}
use Rattle.refusals.specs.Refusals.{◌unless◌, ◌of◌, status}
use Rattle.refusals.proofs.Numbers.{stopped, went-on}
use Rattle.bench_queue.specs.Told.{Reported}
use Rattle.bench_queue.specs.Calls.{report_tests, report_answer}
use Rattle.bench_queue.specs.declared.BenchQueue.{BenchQueue}
use Rattle.jpeg_block.specs.Queue.{handed_state}
use Rattle.jpeg_block.proofs.Handed.{ten, of-ok, of-err}
use Rattle.jpeg_block.proofs.queue.jpeg_block_bench_queue_report.Goals as goal

pub returns-in-Ok-clause-value : goal.returns-in-Ok-clause-value
unfolding report_answer
returns-in-Ok-clause-value c =
    let called = ap (λ (u : Reported). u.status) c.report.ensures ∙ ap (λ (q : BenchQueue). status (report_tests q)) c.handed_state.ensures in
    c.status.ensures ∙ went-on (report_tests (handed_state c.args.state.now)) (3 unless c.args.counts.now of 8 ∷ []) tt (of-ok c.in-Ok.is called) c.put_counts.ensures.value ∙ ten _ _ c.if-state-ne10.false

pub returns-in-Err-clause-value : goal.returns-in-Err-clause-value
unfolding report_answer
returns-in-Err-clause-value c =
    let called = ap (λ (u : Reported). u.status) c.report.ensures ∙ ap (λ (q : BenchQueue). status (report_tests q)) c.handed_state.ensures in
    stopped (report_tests (handed_state c.args.state.now)) (3 unless c.args.counts.now of 8 ∷ []) tt _ c.number-in-Err.ensures (of-err c.in-Err.is called) ∙ ten _ _ c.if-state-ne10.false
