use mathlib.Core.Path.{◌∙◌}
use borrow.Author.Rules.{rules}
use native.Mathlib.Omega.{arith}
use Prim.Native.Nat.{◌<◌}
use Rattle.std.proofs.lemmas.Result.{err_from_is_err_and}
use Rattle.pgm.specs.Reader.{goes_on, reads}
use Rattle.pgm.proofs.Steps.{past-limit, in-comment, comment-begins, no-comment}
use Rattle.pgm.proofs.Reader.step.Goals as goal

pub returns-in_err-unless : goal.returns-in_err-unless
unfolding goes_on reads
returns-in_err-unless c bs = let p = err_from_is_err_and c.from_residual.result c.from_residual.ensures.1 in rw (p.1, p.2) (let h = c.in_err-unless.ensures in grind (arith, past-limit))

pub returns-then-self : goal.returns-then-self
returns-then-self c bs =
    let l : c.args.self.count < 65536 = search rules in
    in-comment _ _ bs l c.if-self.true c.stays_open.ensures ∙ c.go_on.ensures bs

pub returns-then-b-eq35 : goal.returns-then-b-eq35
returns-then-b-eq35 c bs =
    let l : c.args.self.count < 65536 = search rules in
    comment-begins _ _ bs l c.if-self.false c.if-b-eq35.true ∙ c.go_on-then-b-eq35.ensures bs

pub returns : goal.returns
returns c bs =
    let l : c.args.self.count < 65536 = search rules in
    no-comment _ _ bs l c.if-self.false c.if-b-eq35.false ∙ c.step_bare.ensures bs
