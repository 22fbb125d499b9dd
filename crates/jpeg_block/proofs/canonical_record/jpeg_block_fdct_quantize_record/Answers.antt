use mathlib.Core.Path.{◌∙◌}
use Rattle.agreement.specs.Agreement.{canonical_answer}
use Rattle.refusals.proofs.Numbers.{ok-status, err-status, stopped, went-on}
use Rattle.jpeg_block.proofs.canonical_record.jpeg_block_fdct_quantize_record.Goals as goal

pub returns-in-Ok-clause-value : goal.returns-in-Ok-clause-value
unfolding canonical_answer
returns-in-Ok-clause-value c = c.status.ensures ∙ went-on _ _ tt (ok-status _ _ _ _ c.in-Ok.ensures) c.put_record.ensures.value

pub returns-in-Err-clause-value : goal.returns-in-Err-clause-value
unfolding canonical_answer
returns-in-Err-clause-value c = stopped _ _ tt _ c.number.ensures (err-status _ _ _ _ c.in-Err.ensures)
