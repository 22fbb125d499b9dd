use mathlib.Core.Path.{◌≡◌, refl, sym, ap, ◌∙◌}
use mathlib.Core.List.{[], ◌∷◌}
use Rattle.refusals.specs.Refusals.{◌unless◌, ◌of◌, status}
use Rattle.refusals.proofs.Refusals.{lacks, ◌then◌, failed, kept, wrote}
use Rattle.refusals.proofs.Numbers.{stopped, went-on}
use Rattle.bench_queue.specs.Told.{Reported, Turned, listed_of, word_told}
use Rattle.bench_queue.specs.Calls.{report_tests, report_answer, turn_tests, turn_answer, turn_output}
use Rattle.bench_queue.specs.declared.BenchQueue.{BenchQueue}
use Rattle.jpeg_block.specs.Queue.{handed_state, word_number}
use Rattle.jpeg_block.proofs.Places.{two_left}
use Rattle.jpeg_block.proofs.Handed.{ten, of-ok, of-err, nonzero, in-range, turn-tests, out-kept}
use Rattle.jpeg_block.proofs.queue.jpeg_block_bench_queue_turn.Goals as goal

pub returns-in-Err-clause-value : goal.returns-in-Err-clause-value
unfolding report_answer
returns-in-Err-clause-value c =
    let called = ap (λ (u : Reported). u.status) c.report.ensures ∙ ap (λ (q : BenchQueue). status (report_tests q)) c.handed_state-q.ensures in
    stopped (report_tests (handed_state c.args.state.now)) (3 unless c.args.answer.now of 2 ∷ 3 unless c.args.out.now of 4096 ∷ []) tt _ c.number-in-Err.ensures (of-err c.in-Err.is called) ∙ ten _ _ c.if-state-ne10.false

pub returns-then-answer-ne2-clause-value : goal.returns-then-answer-ne2-clause-value
unfolding report_answer
returns-then-answer-ne2-clause-value c =
    let called = ap (λ (u : Reported). u.status) c.report.ensures ∙ ap (λ (q : BenchQueue). status (report_tests q)) c.handed_state-q.ensures in
    went-on (report_tests (handed_state c.args.state.now)) (3 unless c.args.answer.now of 2 ∷ 3 unless c.args.out.now of 4096 ∷ []) tt (of-ok c.in-Ok.is called)
    (c.number-then-answer-ne2.ensures ∙ failed 0 _ (lacks c.if-answer-ne2.true then tt)) ∙ ten _ _ c.if-state-ne10.false

pub returns-in-Ok-outcome-clause-value : goal.returns-in-Ok-outcome-clause-value
unfolding report_answer turn_answer
returns-in-Ok-outcome-clause-value c =
    let called = ap (λ (u : Reported). u.status) c.report.ensures ∙ ap (λ (q : BenchQueue). status (report_tests q)) c.handed_state-q.ensures in
    let turned = ap (λ (t : Turned). t.status) c.turn-turned.ensures.value ∙ ap (λ (q : BenchQueue). status (turn_tests q c.args.out.now)) c.handed_state-q.ensures in
    of-ok c.in-Ok-outcome.is turned ∙ turn-tests _ _ _ c.if-state-ne10.false (in-range _ (of-ok c.in-Ok.is called)) c.if-answer-ne2.false

pub returns-in-Ok-outcome-clause-answer_after : goal.returns-in-Ok-outcome-clause-answer_after
returns-in-Ok-outcome-clause-answer_after c =
    let turned = c.turn-turned.ensures.value ∙ ap (λ (q : BenchQueue). turn_answer q c.args.l c.args.out.now) c.handed_state-q.ensures in
    let listed = ap listed_of (sym c.in-Ok-outcome.is) ∙ ap (λ (t : Turned). t.listed) turned in
    let word = c.word_number.ensures ∙ ap word_number (ap word_told (sym c.in-Ok-outcome.is) ∙ ap (λ (t : Turned). t.word) turned) in
    wrote _ _ refl (two_left c.args.answer.now _ _ c.if-answer-ne2.false ∙ (λ i. listed i ∷ word i ∷ []))

pub returns-in-Err-outcome-clause-value : goal.returns-in-Err-outcome-clause-value
unfolding report_answer turn_answer
returns-in-Err-outcome-clause-value c =
    let called = ap (λ (u : Reported). u.status) c.report.ensures ∙ ap (λ (q : BenchQueue). status (report_tests q)) c.handed_state-q.ensures in
    let turned = ap (λ (t : Turned). t.status) c.turn-turned.ensures.value ∙ ap (λ (q : BenchQueue). status (turn_tests q c.args.out.now)) c.handed_state-q.ensures in
    c.number-in-Err-outcome.ensures ∙ of-err c.in-Err-outcome.is turned ∙ turn-tests _ _ _ c.if-state-ne10.false (in-range _ (of-ok c.in-Ok.is called)) c.if-answer-ne2.false

pub returns-in-Err-outcome-clause-out_after : goal.returns-in-Err-outcome-clause-out_after
unfolding turn_answer
returns-in-Err-outcome-clause-out_after c =
    let turned = of-err c.in-Err-outcome.is (ap (λ (t : Turned). t.status) c.turn-turned.ensures.value) in
    c.turn-turned.ensures.out_after ∙ out-kept _ _ _ (nonzero c.in-Err-outcome.refusal) turned ∙ kept _ _ (λ z. nonzero c.in-Err-outcome.refusal (sym c.number-in-Err-outcome.ensures ∙ z))
