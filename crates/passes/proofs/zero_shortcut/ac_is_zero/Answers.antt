use mir.Syntax.{w32}
use Rattle.integers.proofs.Entries.{entries}
use Rattle.integers.proofs.ZeroTest.{zero_test}
use Rattle.passes.specs.Passes.{eight}
use Rattle.passes.proofs.zero_shortcut.ac_is_zero.Goals as goal

pub returns : goal.returns
unfolding eight
returns c =
    zero_test w32 c.args.p (entries w32 c.args.p c.well_formed.0) eight.ac
