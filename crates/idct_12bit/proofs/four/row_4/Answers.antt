use mir.Syntax.{w64}
use Rattle.gains.specs.Gains.{gains4}
use Rattle.passes.proofs.Steps.{passed}
use Rattle.idct_12bit.proofs.four.row_4.Goals as goal

pub returns : goal.returns
returns c = passed w64 gains4 18 _ _ c.islow_1d_4-q.ensures c.descale_each.ensures
