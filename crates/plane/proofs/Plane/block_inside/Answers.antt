use mathlib.Core.Path.{◌≡◌, refl}
use Prim.Native.Nat.{◌+◌, ◌*◌}
use native.Mathlib.Omega.{arith}
use lib.ListN.{drop, length-drop}
use Rattle.lists.specs.Grid.{grid}
use Rattle.lists.proofs.Tab.{none, same, filled, filled-run}
use Rattle.plane.specs.Plane.{block_at}
use Rattle.plane.proofs.Coding.{inside, inside-row}
use Rattle.plane.proofs.Plane.block_inside.Goals as goal

pub loop-j-init : goal.loop-j-init
loop-j-init c = none _ 64 _ refl

pub loop-j-preserved : goal.loop-j-preserved
loop-j-preserved c =
    let s = c.args.self in
    let j = c.loop-j.j in
    let at = s.width * (8 * c.args.y) + 8 * c.args.x + s.width * j in
    let next : 8 * j + 8 ≡ 8 * (j + 1) = omega arith in
    let long = length-drop at s.samples.now in
    let room = inside _ _ _ s.sized _ _ c.requires.0 c.requires.1 c.loop-j-test.true in
    rw c.copy_run.ensures
    (same _ 64 _ _ _
    (filled-run _ 64 (8 * j) c.loop-j.block (drop at s.samples.now) 8 c.loop-j.invariant (omega arith) (omega arith)
    (inside-row _ _ _ s.sized _ _ c.requires.0 c.requires.1 c.loop-j-test.true))
    next)

pub returns : goal.returns
unfolding block_at grid
returns c = filled c.loop-j.invariant (omega arith)
