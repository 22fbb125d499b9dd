use Prim.Native.Nat.{◌*◌}
use Rattle.lists.proofs.Tab.{Filled}
use Rattle.plane.proofs.Coding.{sample_of}
use Rattle.plane.proofs.Plane.block_inside.Given as goal

abbrev pub invariant-loop-j : goal.invariant-loop-j
invariant-loop-j l = Filled (sample_of l.self.samples.now l.self.width l.self.height l.x l.y) 64 (8 * l.j) l.block
