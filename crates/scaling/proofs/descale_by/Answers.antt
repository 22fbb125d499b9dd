use Rattle.scaling.proofs.Rounding.{descales}
use Rattle.scaling.proofs.descale_by.Goals as goal

pub returns : goal.returns
returns g c = descales g.T.Wrapping.width _ c.args.shift c.from_i32.ensures c.shl.ensures c.add.ensures c.shr.ensures
