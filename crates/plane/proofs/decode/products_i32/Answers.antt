use mathlib.Core.Path.{refl}
use native.Mathlib.Omega.{arith}
use borrow.Author.Rules.{rules}
use lib.IntN.{pos}
use lib.ListN.{get_or}
use Rattle.integers.specs.Fits16.{Fits16}
use Rattle.lists.proofs.Tab.{none, next, filled}
use Rattle.stored_blocks.proofs.Times.{product_at}
use Rattle.plane.specs.Scale.{fitted, unchanged}
use Rattle.plane.proofs.decode.products_i32.Goals as goal

pub loop-n-init : goal.loop-n-init
loop-n-init c = none _ 64 _ refl

pub loop-n-preserved : goal.loop-n-preserved
loop-n-preserved c =
    let fits : Fits16 (get_or c.args.coefficients.now c.loop-n.n (pos 0)) = search rules in
    next c.loop-n.invariant (omega arith) (product_at _ _ c.loop-n.n fits (c.product.ensures.value, c.product.ensures.result_bound))

pub returns : goal.returns
unfolding fitted unchanged
returns c = filled c.loop-n.invariant (omega arith)
