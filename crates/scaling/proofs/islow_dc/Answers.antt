use mir.Syntax.{w32}
use Rattle.scaling.proofs.Rounding.{descaled-read}
use Rattle.scaling.proofs.islow_dc.Goals as goal

pub returns : goal.returns
returns c = descaled-read w32 3 c.ranges.dc c.descale_by.ensures
