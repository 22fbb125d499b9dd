use mir.Syntax.{w32}
use Rattle.integers.proofs.Entries.{entries}
use Rattle.integers.proofs.ZeroTest.{zero_test}
use Rattle.passes.specs.Passes.{two}
use Rattle.idct_reduced.proofs.two.ac_is_zero_2.Goals as goal

pub returns : goal.returns
unfolding two
returns c = zero_test w32 c.args.p (entries w32 c.args.p c.well_formed.0) two.ac
