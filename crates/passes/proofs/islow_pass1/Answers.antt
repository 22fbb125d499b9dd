use mir.Syntax.{w32}
use Rattle.gains.specs.Gains.{gains}
use Rattle.passes.proofs.Steps.{passed}
use Rattle.passes.proofs.islow_pass1.Goals as goal

pub returns : goal.returns
returns c = passed w32 gains 11 _ _ c.islow_1d.ensures c.descale_8.ensures
