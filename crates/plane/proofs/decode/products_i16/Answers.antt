use mathlib.Core.Path.{refl, sym, ap, subst, ◌∙◌}
use native.Mathlib.Omega.{arith}
use borrow.Author.Rules.{rules}
use lib.IntN.{pos}
use lib.ListN.{get_or}
use mir.Syntax.{w16}
use mir.ValLaws.{to_z-of_z}
use Rattle.integers.specs.Fits16.{Fits16}
use Rattle.lists.proofs.Tab.{none, next, filled}
use Rattle.stored_blocks.proofs.Times.{product_at}
use Rattle.plane.specs.Scale.{clamped16, fitted}
use Rattle.plane.proofs.Scales.{clamped-fits}
use Rattle.plane.proofs.decode.products_i16.Goals as goal

pub loop-n-init : goal.loop-n-init
loop-n-init c = none _ 64 _ refl

pub loop-n-preserved : goal.loop-n-preserved
loop-n-preserved c =
    let fits : Fits16 (get_or c.args.coefficients.now c.loop-n.n (pos 0)) = search rules in
    let e = c.clamped.ensures ∙ ap clamped16 (product_at _ _ c.loop-n.n fits (c.product.ensures.value, c.product.ensures.result_bound)) in
    next c.loop-n.invariant (omega arith) (to_z-of_z w16 c.clamped.result (subst Fits16 (sym e) (clamped-fits _)) ∙ e)

pub returns : goal.returns
unfolding fitted
returns c = filled c.loop-n.invariant (omega arith)
