use native.Mathlib.Omega.{arith}
use Rattle.fewest.specs.Blocks.{error_within}
use Rattle.fewest.proofs.Loops.{added_none, added_more, added-all}
use Rattle.fewest.proofs.block_trial.Summed.edge_error.Goals as goal

pub loop-i-init : goal.loop-i-init
loop-i-init c = added_none _ _

pub loop-i-preserved : goal.loop-i-preserved
loop-i-preserved c = added_more c.loop-i.invariant c.error_term-error.ensures.value c.error_term-error.ensures.upper_bound

pub returns-clause-value : goal.returns-clause-value
unfolding error_within
returns-clause-value c = (added-all c.loop-i.invariant 64 (omega arith)).0
