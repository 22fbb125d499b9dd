use mathlib.Core.Bool.{cond}
use lib.ListN.{get_or}
use lib.IntN.{pos}
use Rattle.integers.specs.Equal.{eq_z}
use Rattle.fewest.proofs.Loops.{Added}
use Rattle.fewest.proofs.block_trial.count_nonzeros.Given as goal

abbrev pub invariant-loop-n : goal.invariant-loop-n
invariant-loop-n l = Added (λ n. cond (eq_z (get_or l.coefficients n (pos 0)) (pos 0)) 0 1) 1 l.n l.count
