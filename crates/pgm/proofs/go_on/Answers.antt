use mathlib.Core.Path.{refl}
use native.Mathlib.Omega.{arith}
use Rattle.std.proofs.lemmas.Result.{err_from_is_err_and}
use Rattle.pgm.specs.Reader.{reads, goes_on}
use Rattle.pgm.proofs.Steps.{past-limit}
use Rattle.pgm.proofs.go_on.Goals as goal

pub returns-in_err-unless : goal.returns-in_err-unless
unfolding goes_on
returns-in_err-unless c bs = let p = err_from_is_err_and c.from_residual.result c.from_residual.ensures.1 in rw (p.1, p.2) (let h = c.in_err-unless.ensures in grind (arith, past-limit))

pub returns : goal.returns
unfolding goes_on reads
returns c bs = refl
