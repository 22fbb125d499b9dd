use lib.IntN.{pos}
use Rattle.passes.specs.Passes.{two}
use Rattle.block.proofs.Fit.{row_fits}
use Rattle.block.proofs.Row.{row-two}
use Rattle.idct_reduced.proofs.two.full_row_2.Goals as goal

pub returns : goal.returns
unfolding two
returns c =
    row_fits c.requires.every two row-two _ (c.load_row.ensures (pos 0)) c.pass_2.ensures
