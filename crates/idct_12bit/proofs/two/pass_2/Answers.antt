use mir.Syntax.{w64}
use Rattle.gains.specs.Gains.{gains2}
use Rattle.passes.proofs.Steps.{passed}
use Rattle.idct_12bit.proofs.two.pass_2.Goals as goal

pub returns : goal.returns
returns c = passed w64 gains2 _ _ _ c.islow_1d_2-q.ensures c.descale_each.ensures
