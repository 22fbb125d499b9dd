use mir.Syntax.{w64}
use Rattle.gains.specs.Gains.{gains}
use Rattle.passes.proofs.Steps.{passed}
use Rattle.idct_12bit.proofs.eight.pass_8.Goals as goal

pub returns : goal.returns
returns c = passed w64 gains _ _ _ c.islow_1d-q.ensures c.descale_each.ensures
