use Rattle.lists.proofs.Tab.{Filled}
use Rattle.plane.proofs.Coding.{sample_of}
use Rattle.plane.proofs.Plane.block_at_edge.Given as goal

abbrev pub invariant-loop-i : goal.invariant-loop-i
invariant-loop-i l = Filled (sample_of l.self.samples.now l.self.width l.self.height l.x l.y) 64 l.i l.block
