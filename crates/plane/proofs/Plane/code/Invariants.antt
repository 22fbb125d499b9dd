use Rattle.plane.proofs.Coding.{Coded}
use Rattle.plane.proofs.Plane.code.Given as goal

abbrev pub invariant-loop-k : goal.invariant-loop-k
invariant-loop-k l = Coded l.self.samples.now l.self.width l.self.height l.quant l.k l.out
