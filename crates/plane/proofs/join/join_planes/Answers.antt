use mathlib.Core.Path.{sym}
use Rattle.plane.proofs.Joining.{strips, joinable}
use Rattle.plane.proofs.join.join_planes.Goals as goal

pub join_rows-requires : goal.join_rows-requires
join_rows-requires c =
    rw (c.blocks_of-p.ensures.value, c.blocks_of-q.ensures.value, c.blocks_of.ensures.value)
    (joinable _ _ _ _ (strips _ _ _ _ _ _ _ _ (sym c.in_ok-strip_status.ensures)) (sym c.in_ok-fitting_status.ensures))
