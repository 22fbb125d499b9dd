use mathlib.Core.Path.{refl}
use Prim.Native.Nat.{ℕ, ◌+◌, ◌*◌, ◌≤◌, ◌<◌}
use native.Mathlib.Omega.{arith}
use Rattle.lists.specs.Grid.{grid}
use Rattle.lists.proofs.Tab.{none, next, filled}
use Rattle.plane.specs.Plane.{blocks, block_at}
use Rattle.plane.proofs.Plane.block_at_edge.Goals as goal

-- a block's columns and rows are few
fits : {x n : ℕ} → x < blocks n → n ≤ 4096 → 8 * x + 8 ≤ 4096
unfolding blocks
fits h m = omega arith

pub loop-i-init : goal.loop-i-init
loop-i-init c = none _ 64 _ refl

pub overflow_mul-x : goal.overflow_mul-x
overflow_mul-x c = omega (arith, fits c.requires.0 c.args.self.sized.w-most)

pub overflow_add-x : goal.overflow_add-x
overflow_add-x c = omega (arith, fits c.requires.0 c.args.self.sized.w-most)

pub overflow_mul-y : goal.overflow_mul-y
overflow_mul-y c = omega (arith, fits c.requires.1 c.args.self.sized.h-most)

pub overflow_add-y : goal.overflow_add-y
overflow_add-y c = omega (arith, fits c.requires.1 c.args.self.sized.h-most)

pub loop-i-preserved : goal.loop-i-preserved
loop-i-preserved c = next c.loop-i.invariant (omega arith) c.sample_at.ensures

pub returns : goal.returns
unfolding block_at grid
returns c = filled c.loop-i.invariant (omega arith)
