use Rattle.std.specs.Prelude.{◌≡◌, take}
use Rattle.guarded_quantizer.specs.Divisors.{has_zero}
use Rattle.fdct_f64.proofs.has_zero.Given as goal

abbrev pub invariant-loop-q : goal.invariant-loop-q
invariant-loop-q l = l.found ≡ has_zero (take l.q-index l.quant)
