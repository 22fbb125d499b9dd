use mathlib.Core.Path.{refl, ◌∙◌}
use native.Mathlib.Omega.{arith}
use mir.Syntax.{w16}
use mir.ValLaws.{to_z-of_z}
use Rattle.lists.proofs.Tab.{none, next, filled}
use Rattle.transform.proofs.guarded.each_coefficient.Goals as goal

pub loop-u-preserved : goal.loop-u-preserved
loop-u-preserved c =
    let called = c.coefficient_of in let l = c.loop-u in next l.invariant (omega arith) (to_z-of_z w16 called.result called.ensures.sfits ∙ called.ensures.value)

pub loop-u-init : goal.loop-u-init
loop-u-init c = none _ 8 _ refl

pub returns : goal.returns
returns c = filled c.loop-u.invariant (omega arith)
