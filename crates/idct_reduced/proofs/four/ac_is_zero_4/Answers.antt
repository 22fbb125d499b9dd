use mir.Syntax.{w32}
use Rattle.integers.proofs.Entries.{entries}
use Rattle.integers.proofs.ZeroTest.{zero_test}
use Rattle.passes.specs.Passes.{four}
use Rattle.idct_reduced.proofs.four.ac_is_zero_4.Goals as goal

pub returns : goal.returns
unfolding four
returns c = zero_test w32 c.args.p (entries w32 c.args.p c.well_formed.0) four.ac
