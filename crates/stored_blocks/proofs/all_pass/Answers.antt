use mathlib.Core.Path.{◌≡◌, refl, ap, ◌∙◌}
use native.Mathlib.Omega.{arith}
use mathlib.Core.List.{List}
use borrow.Author.Rules.{rules}
use lib.ListN.{get_or}
use lib.IntN.{ℤ, pos}
use mir.Syntax.{w16, w32}
use mir.Val.{to_z, of_z}
use Rattle.lists.specs.Below.{below}
use Rattle.lists.proofs.Below.{below_next, below_all}
use Rattle.stored_blocks.specs.Stored.{screened}
use Rattle.stored_blocks.proofs.Limits.{place-test}
use Rattle.stored_blocks.proofs.all_pass.Goals as goal

pub loop-n-init : goal.loop-n-init
unfolding below
loop-n-init c = refl

pub loop-n-preserved : goal.loop-n-preserved
loop-n-preserved c =
    let n = c.loop-n.n in
    let x : to_z w16 (of_z w16 (get_or c.args.coefficients.now n (pos 0))) ≡ get_or c.args.coefficients.now n (pos 0) = search rules in
    let l : to_z w32 (of_z w32 (get_or c.low_limits-low.result n (pos 0))) ≡ get_or c.low_limits-low.result n (pos 0) = search rules in
    let h : to_z w32 (of_z w32 (get_or c.high_limits-high.result n (pos 0))) ≡ get_or c.high_limits-high.result n (pos 0) = search rules in
    let low = l ∙ ap (λ (v : List ℤ). get_or v n (pos 0)) c.low_limits-low.ensures in
    let high = h ∙ ap (λ (v : List ℤ). get_or v n (pos 0)) c.high_limits-high.ensures in
    below_next _ n (place-test n (get_or c.args.quant.now n 0) c.loop-n-test.true x low high c.passes-all.ensures) c.loop-n.invariant

pub returns : goal.returns
unfolding screened
returns c = below_all _ c.loop-n.n 64 c.loop-n.invariant (omega arith)
