use Rattle.fewest.specs.Blocks.{error_term}
use Rattle.fewest.proofs.Loops.{Added}
use Rattle.fewest.proofs.block_trial.Summed.whole_error.Given as goal

abbrev pub invariant-loop-i : goal.invariant-loop-i
invariant-loop-i l = Added (error_term 8 8 l.self.block l.decoded) 65025 l.i l.error
