use borrow.Author.Tests.{eq-eqb, ne_eqb}
use Rattle.coefficient_text.specs.Lines.{separator}
use Rattle.coefficient_text.proofs.decimal_lines.separator_of.Goals as goal

pub returns-then-n-eq7 : goal.returns-then-n-eq7
unfolding separator
returns-then-n-eq7 c = simp (eq-eqb _ 7 c.if-n-eq7.true)

pub returns : goal.returns
unfolding separator
returns c = simp (ne_eqb _ 7 c.if-n-eq7.false)
