use Prim.Native.Nat.{ℕ, ◌<◌}
use mathlib.Core.Path.{◌≡◌, refl}
use mathlib.Core.Bool.{true}
use mathlib.Core.List.{List}
use native.Mathlib.Omega.{arith}
use lib.ListN.{get_or}
use lib.Ieee.{Float, nan}
use Rattle.lists.specs.Below.{below}
use Rattle.lists.proofs.Below.{holds_at}
use Rattle.lists.proofs.Tab.{none, next, filled}
use Rattle.guarded_quantizer.proofs.FixedPoint.{rounding-number, whole-part-most}
use Rattle.transform.specs.Settled.{in_range}
use Rattle.transform.proofs.guarded.points_of.Goals as goal

-- the value at u is in the range
near : (scaled : List Float) (u : ℕ) → u < 8 → below 8 (λ k. in_range (get_or scaled k nan)) ≡ true → in_range (get_or scaled u nan) ≡ true
near scaled u h e = holds_at 8 (λ k. in_range (get_or scaled k nan)) e u h

pub float_to_bits-points : goal.float_to_bits-points
float_to_bits-points c =
    let u = c.loop-u.u in let s = c.args.scaled.now in
    rounding-number (get_or s u nan) (c.requires.by_index u (omega arith)) (near s u (omega arith) c.requires.nan_value)

pub overflow_cast-points : goal.overflow_cast-points
overflow_cast-points c =
    let u = c.loop-u.u in let s = c.args.scaled.now in
    record { fits = omega (arith, whole-part-most (get_or s u nan) (c.requires.by_index u (omega arith)) (near s u (omega arith) c.requires.nan_value)) }

pub loop-u-init : goal.loop-u-init
loop-u-init c = none _ 8 _ refl

pub loop-u-preserved : goal.loop-u-preserved
loop-u-preserved c = next c.loop-u.invariant (omega arith) refl

pub returns : goal.returns
returns c = filled c.loop-u.invariant (omega arith)
