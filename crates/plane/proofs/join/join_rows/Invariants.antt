use Prim.Native.Nat.{◌+◌, ◌*◌}
use Rattle.plane.proofs.Joining.{Joined}
use Rattle.plane.proofs.join.join_rows.Given as goal

abbrev pub invariant-loop-y : goal.invariant-loop-y
invariant-loop-y l = Joined l.p l.q l.rows l.left l.right ((l.p + l.q) * l.y) l.out
