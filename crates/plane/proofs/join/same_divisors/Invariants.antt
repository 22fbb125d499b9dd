use mathlib.Core.Path.{◌≡◌}
use lib.Dec.{eqb}
use lib.ListN.{get_or}
use Rattle.lists.specs.Below.{below}
use Rattle.quantize.specs.Quantize.{divisor_of}
use Rattle.plane.proofs.join.same_divisors.Given as goal

abbrev pub invariant-loop-n : goal.invariant-loop-n
invariant-loop-n l = l.same ≡ below l.n (λ k. eqb (divisor_of (get_or l.quant k 0)) (divisor_of (get_or l.other k 0)))
