use mathlib.Core.Path.{refl, ap₂}
use native.Mathlib.Omega.{arith}
use lib.Dec.{eqb}
use lib.ListN.{get_or}
use Rattle.lists.specs.Below.{below}
use Rattle.lists.proofs.Below.{below_next, below_all}
use Rattle.quantize.specs.Quantize.{divisor_of}
use Rattle.plane.specs.Join.{same_divisors}
use Rattle.plane.proofs.join.same_divisors.Goals as goal

pub loop-n-init : goal.loop-n-init
unfolding below
loop-n-init c = refl

pub loop-n-preserved : goal.loop-n-preserved
loop-n-preserved c =
    below_next (λ k. eqb (divisor_of (get_or c.args.quant.now k 0)) (divisor_of (get_or c.args.other.now k 0))) c.loop-n.n (ap₂ eqb c.divisor_u8.ensures c.divisor_u8-in-loop-n.ensures) c.loop-n.invariant

pub returns : goal.returns
unfolding same_divisors
returns c = below_all _ c.loop-n.n 64 c.loop-n.invariant (omega arith)
