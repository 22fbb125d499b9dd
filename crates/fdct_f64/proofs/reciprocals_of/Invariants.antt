use Rattle.std.specs.Prelude.{ℕ, ◌+◌, ◌*◌, ◌/◌, ◌%◌, List, get_or}
use lib.Ieee.{Float}
use Rattle.lists.proofs.Tab.{Filled}
use Rattle.guarded_quantizer.specs.Divisors.{reciprocal}
use Rattle.fdct_f64.proofs.reciprocals_of.Given as goal

abbrev pub one : List ℕ → ℕ → Float
one quant k = reciprocal (get_or quant k 0) (k % 8) (k / 8)

abbrev pub invariant-loop-u : goal.invariant-loop-u
invariant-loop-u l = Filled (one l.quant) 64 (8 * l.v + l.u) l.made

abbrev pub invariant-loop-v : goal.invariant-loop-v
invariant-loop-v l = Filled (one l.quant) 64 (8 * l.v) l.made
