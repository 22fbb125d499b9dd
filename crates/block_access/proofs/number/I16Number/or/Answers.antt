use mir.Syntax.{w16}
use Rattle.block.proofs.Level.{or-zero}
use Rattle.block_access.proofs.number.I16Number.or.Goals as goal

pub returns : goal.returns
returns c = or-zero w16 c.ranges.self c.ranges.other
