use mathlib.Core.Path.{sym, ap, ◌∙◌}
use mathlib.Core.Bool.{Bool, cond}
use native.Mathlib.Omega.{arith}
use borrow.Author.Tests.{eq-eqb, ne_eqb}
use lib.IntN.{pos}
use mir.Syntax.{w16}
use Rattle.integers.proofs.Equal.{bits-eqb}
use Rattle.fewest.proofs.block_trial.one_if_nonzero.Goals as goal

pub returns-then-coefficient-eq0-clause-value : goal.returns-then-coefficient-eq0-clause-value
returns-then-coefficient-eq0-clause-value c =
    let same = bits-eqb w16 {y = pos 0} c.ranges.coefficient (record { sfits = omega arith }) in ap (λ (t : Bool). cond t 0 1) (sym (eq-eqb _ _ c.if-coefficient-eq0.true) ∙ same)

pub returns-else-coefficient-eq0-clause-value : goal.returns-else-coefficient-eq0-clause-value
returns-else-coefficient-eq0-clause-value c =
    let same = bits-eqb w16 {y = pos 0} c.ranges.coefficient (record { sfits = omega arith }) in ap (λ (t : Bool). cond t 0 1) (sym (ne_eqb _ _ c.if-coefficient-eq0.false) ∙ same)
