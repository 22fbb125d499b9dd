use borrow.Author.Rules.{rules}
use Rattle.std.specs.Prelude.{Ok, Err}
use Rattle.std.proofs.Common.{[], ◌∷◌, ◌++◌, ◌≡◌, ap, ◌∙◌}
use Rattle.pgm.specs.Reader.{told}
use Rattle.pgm.proofs.Steps.{has_end, has_more, has_done, has_refused}
use Rattle.recode_pgm.proofs.read_header.Goals as goal

pub loop-init : goal.loop-init
loop-init g c = ([], c.new-reader.ensures)

pub returns-then-read_full-eq0 : goal.returns-then-read_full-eq0
returns-then-read_full-eq0 g c = (c.loop.invariant.0, has_end _ _ c.loop.invariant.1)

pub returns-in_err-r : goal.returns-in_err-r
returns-in_err-r g c =
    let is : c.from_residual.result ≡ Err c.in_err-r.field-0.0 = search rules in
    ((c.loop.invariant.0 ++ (_ ∷ [])) ++ [], ap told is ∙ has_refused _ c.loop.invariant.0 _ _ c.loop.invariant.1 c.step.ensures _ c.in_err-r.was [])

pub returns-in-Done : goal.returns-in-Done
returns-in-Done g c =
    ((c.loop.invariant.0 ++ (_ ∷ [])) ++ [], has_done _ c.loop.invariant.0 _ _ c.loop.invariant.1 c.step.ensures _ (c.in_ok-r.was ∙ ap Ok c.in-Done.is) [])

pub loop-preserved : goal.loop-preserved
loop-preserved g c =
    (c.loop.invariant.0 ++ (_ ∷ []), has_more _ c.loop.invariant.0 _ _ c.loop.invariant.1 c.step.ensures _ (c.in_ok-r.was ∙ ap Ok c.in-More.is))

pub returns : goal.returns
returns g c = (c.loop.invariant.0, has_end _ _ c.loop.invariant.1)
