use Prim.Native.Nat.{◌*◌}
use Rattle.plane.proofs.Joining.{Copied}
use Rattle.plane.proofs.join.copy_blocks.Given as goal

abbrev pub invariant-loop-k : goal.invariant-loop-k
invariant-loop-k l = Copied l.row (64 * l.k) l.out
