use Prim.Native.Nat.{◌+◌, ◌*◌}
use Rattle.lists.proofs.Tab.{Filled}
use Rattle.guarded_quantizer.specs.Guarded.{guarded}
use Rattle.transform.proofs.guarded.guarded_coefficients.Given as goal

abbrev pub invariant-loop-u : goal.invariant-loop-u
invariant-loop-u l = Filled (guarded l.block l.quant l.reciprocals) 64 (8 * l.v + l.u) l.coefficients

abbrev pub invariant-loop-v : goal.invariant-loop-v
invariant-loop-v l = Filled (guarded l.block l.quant l.reciprocals) 64 (8 * l.v) l.coefficients
