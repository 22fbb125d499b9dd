use Rattle.plane.proofs.Placing.{rows_more, row_room}
use Rattle.plane.proofs.decode.put_block.Goals as goal

pub put_row-requires-clause-n_in_bounds_2 : goal.put_row-requires-clause-n_in_bounds_2
put_row-requires-clause-n_in_bounds_2 c =
    (row_room c.loop-j.out c.requires.begins c.requires.block_len c.loop-j.invariant.long c.loop-j-test.true c.min-rows.ensures c.min-columns.ensures).write

pub loop-j-preserved : goal.loop-j-preserved
loop-j-preserved c =
    let r = row_room c.loop-j.out c.requires.begins c.requires.block_len c.loop-j.invariant.long c.loop-j-test.true c.min-rows.ensures c.min-columns.ensures in
    rows_more _ _ _ _ _ _ c.requires.begins.m-some c.loop-j.invariant r.turn c.min-columns.ensures c.requires.begins.left r.down r.read c.put_row.ensures
