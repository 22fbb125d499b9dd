use mathlib.Core.Path.{sym, ◌∙◌}
use Rattle.pgm.specs.Reader.{goes_on}
use Rattle.pgm.proofs.Steps.{start-yes, start-no, p-yes, p-no, magic-space, magic-no, before-space, before-digit, before-no, in-digit, in_end, in-no}
use Rattle.pgm.proofs.step_bare.Goals as goal

pub returns-in-Start : goal.returns-in-Start
returns-in-Start c bs = start-yes _ _ _ _ c.in-Start.is c.if-b-eq80.true ∙ c.go_on.ensures bs

pub returns-in-P : goal.returns-in-P
returns-in-P c bs = p-yes _ _ _ _ c.in-P.is c.if-b-eq53.true ∙ c.go_on-in-P.ensures bs

pub returns-in-Magic : goal.returns-in-Magic
returns-in-Magic c bs = magic-space _ _ _ _ c.in-Magic.is (sym c.if-is_space.ensures) ∙ c.go_on-in-Magic.ensures bs

pub returns-in-Before : goal.returns-in-Before
returns-in-Before c bs = before-space _ _ _ _ _ c.in-Before.is (sym c.if-is_space-2.ensures) ∙ c.go_on-in-Before.ensures bs

pub returns-in-Before-2 : goal.returns-in-Before-2
returns-in-Before-2 c bs = before-digit _ _ _ _ _ _ c.in-Before-2.is c.appended.ensures (sym c.if-is_digit.ensures) ∙ c.go_on-in-Before-2.ensures bs

pub returns-in-In : goal.returns-in-In
returns-in-In c bs = in-digit _ _ _ _ _ _ _ c.in-In.is c.appended-in-In.ensures (sym c.if-is_digit-2.ensures) ∙ c.go_on-in-In.ensures bs

pub returns-in-In-2 : goal.returns-in-In-2
returns-in-In-2 c bs = in_end _ _ _ _ _ _ c.in-In-2.is (sym c.if-is_digit-2.ensures) ∙ c.behind_number.ensures _ bs (sym c.if-is_space-3.ensures)

pub returns-in_default : goal.returns-in_default
unfolding goes_on
returns-in_default c bs = start-no _ _ _ _ c.in-Start.is c.if-b-eq80.false

pub returns-in_default-2 : goal.returns-in_default-2
unfolding goes_on
returns-in_default-2 c bs = p-no _ _ _ _ c.in-P.is c.if-b-eq53.false

pub returns-in_default-3 : goal.returns-in_default-3
unfolding goes_on
returns-in_default-3 c bs = magic-no _ _ _ _ c.in-Magic.is (sym c.if-is_space.ensures)

pub returns-in_default-4 : goal.returns-in_default-4
unfolding goes_on
returns-in_default-4 c bs = before-no _ _ _ _ _ c.in-Before-2.is (sym c.if-is_space-2.ensures) (sym c.if-is_digit.ensures)

pub returns-in_default-5 : goal.returns-in_default-5
unfolding goes_on
returns-in_default-5 c bs = in-no _ _ _ _ _ _ c.in-In-2.is (sym c.if-is_digit-2.ensures) (sym c.if-is_space-3.ensures)
