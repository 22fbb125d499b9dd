use mathlib.Core.Path.{◌≡◌, sym, ap, ◌∙◌}
use mathlib.Core.Bool.{cond}
use native.Mathlib.Omega.{arith}
use borrow.Author.Rules.{rules}
use lib.ListN.{length, get_or}
use lib.IntN.{ℤ, pos}
use mir.Syntax.{w16}
use mir.Val.{SFits}
use mir.ValLaws.{to_z-of_z}
use Rattle.integers.specs.Equal.{eq_z}
use Rattle.lists.proofs.Tab.{tab-get_d}
use Rattle.percent.specs.Nonzeros.{nonzeros}
use Rattle.percent.proofs.Nonzeros.{nonzeros-tab}
use Rattle.fewest.proofs.Loops.{added_none, added_more, added-all}
use Rattle.fewest.proofs.block_trial.count_nonzeros.Goals as goal

pub loop-n-init : goal.loop-n-init
loop-n-init c = added_none _ _

pub loop-n-preserved : goal.loop-n-preserved
loop-n-preserved c =
    let one = c.one_if_nonzero-count in
    let fits : SFits w16 (get_or c.args.coefficients.now c.loop-n.n (pos 0)) = search rules in
    added_more c.loop-n.invariant (one.ensures.value ∙ ap (λ (z : ℤ). cond (eq_z z (pos 0)) 0 1) (to_z-of_z w16 _ fits)) one.ensures.upper_bound

pub returns-clause-value : goal.returns-clause-value
returns-clause-value c =
    let cs = c.args.coefficients.now in
    let long : length cs ≡ 64 = search rules in
    (added-all c.loop-n.invariant 64 (omega arith)).0 ∙ sym (nonzeros-tab 64 (λ n. get_or cs n (pos 0))) ∙ ap nonzeros (tab-get_d (pos 0) cs 64 long)
