use mir.Syntax.{w32}
use Rattle.block.proofs.Level.{or-zero}
use Rattle.block_access.proofs.number.I32Number.or.Goals as goal

pub returns : goal.returns
returns c = or-zero w32 c.ranges.self c.ranges.other
