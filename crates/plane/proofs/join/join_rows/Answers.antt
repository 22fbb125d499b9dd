use native.Mathlib.Omega.{arith}
use Rattle.plane.proofs.Joining.{join-room, row_room, joined-none, joined-row, joined-all}
use Rattle.plane.proofs.join.join_rows.Goals as goal

pub loop-y-init : goal.loop-y-init
loop-y-init c = joined-none _ _ _ c.args.left.now c.args.right.now _ c.requires.out-long

pub copy_row-requires-clause-left_len : goal.copy_row-requires-clause-left_len
copy_row-requires-clause-left_len c = (row_room c.requires (join-room c.loop-y.out c.requires c.loop-y.invariant.long c.loop-y-test.true)).0

pub loop-y-preserved : goal.loop-y-preserved
loop-y-preserved c =
    let room = join-room c.loop-y.out c.requires c.loop-y.invariant.long c.loop-y-test.true in
    joined-row c.args.p c.args.q c.args.rows c.args.left.now c.args.right.now c.loop-y.y room.read_left room.read_right c.loop-y-test.true c.loop-y.invariant c.copy_row.ensures

pub returns : goal.returns
returns c = joined-all c.args.p c.args.q c.args.rows c.args.left.now c.args.right.now c.loop-y.invariant (omega arith) (omega arith)
