use mathlib.Core.Path.{◌∙◌}
use borrow.Author.Tests.{eq-eqb, ne_eqb}
use lib.ListN.{take}
use Rattle.std.proofs.lemmas.Bool.Decides.{Decides-eqb}
use Rattle.std.proofs.lemmas.Slice.Eq.{slice_eq-Decides}
use Rattle.coefficient_text.specs.Text.{accepted, header}
use Rattle.coefficient_text.proofs.Input.{decided}
use Rattle.coefficient_text.proofs.is_accepted.Goals as goal

pub returns-then-input-eq75 : goal.returns-then-input-eq75
unfolding accepted header
returns-then-input-eq75 c = decided c.starts_with.result (take 11 c.args.input.now) header (slice_eq-Decides Decides-eqb _ _ _ c.starts_with.ensures.value) ∙ simp (eq-eqb _ 75 c.if-input-eq75.true)

pub returns-else-input-eq75 : goal.returns-else-input-eq75
unfolding accepted
returns-else-input-eq75 c = simp (ne_eqb _ 75 c.if-input-eq75.false)
