use mathlib.Core.Path.{◌∙◌}
use Rattle.guarded_quantizer.specs.Divisors.{divisors_answer}
use Rattle.refusals.proofs.Numbers.{ok-status, err-status, stopped, went-on}
use Rattle.jpeg_block.proofs.guarded.jpeg_block_quantization_divisors.Goals as goal

pub returns-in-Ok-clause-value : goal.returns-in-Ok-clause-value
unfolding divisors_answer
returns-in-Ok-clause-value c = c.status.ensures ∙ went-on _ _ tt (ok-status _ _ _ _ c.in-Ok.ensures) c.put_all.ensures.value

pub returns-in-Err-clause-value : goal.returns-in-Err-clause-value
unfolding divisors_answer
returns-in-Err-clause-value c = stopped _ _ tt _ c.number.ensures (err-status _ _ _ _ c.in-Err.ensures)
