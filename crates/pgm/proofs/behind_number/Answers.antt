use mathlib.Core.Path.{sym, ◌∙◌}
use Rattle.std.proofs.lemmas.Result.{err_from_is_err_and}
use Rattle.pgm.specs.Reader.{goes_on}
use Rattle.pgm.proofs.Steps.{behind-width, behind-height, behind-maxval}
use Rattle.pgm.proofs.behind_number.Goals as goal

pub returns-in-Width : goal.returns-in-Width
returns-in-Width c b bs s = behind-width _ _ _ _ _ s c.in-Width.is ∙ c.go_on.ensures bs

pub returns-in-Height : goal.returns-in-Height
returns-in-Height c b bs s = behind-height _ _ _ _ _ s _ c.in-Height.is ∙ c.go_on-in-Height.ensures bs

pub returns-in_err-whole-in-Maxval : goal.returns-in_err-whole-in-Maxval
unfolding goes_on
returns-in_err-whole-in-Maxval c b bs s =
    let p = err_from_is_err_and c.from_residual.result c.from_residual.ensures.1 in
    rw (p.1, p.2) (behind-maxval _ _ _ _ _ s _ _ c.in-Maxval.is ∙ sym c.in_err-whole-in-Maxval.ensures)

pub returns-in_ok-whole-in-Maxval : goal.returns-in_ok-whole-in-Maxval
unfolding goes_on
returns-in_ok-whole-in-Maxval c b bs s = behind-maxval _ _ _ _ _ s _ _ c.in-Maxval.is ∙ sym c.in_ok-whole-in-Maxval.ensures
