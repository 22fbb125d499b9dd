use native.Mathlib.Omega.{arith}
use mir.Syntax.{w64}
use Rattle.scaling.proofs.Rounding.{descaled-read}
use Rattle.idct_12bit.proofs.Each.{each_none, each_more, each_all}
use Rattle.idct_12bit.proofs.passes_12bit.descale_each.Goals as goal

pub loop-i-preserved : goal.loop-i-preserved
loop-i-preserved c = each_more c.loop-i.invariant (omega arith) (descaled-read w64 _ (record { sfits = c.descale_by-arg-1.given }) c.descale_by.ensures)

pub loop-i-init : goal.loop-i-init
loop-i-init c = each_none

pub returns : goal.returns
returns c = each_all c.loop-i.invariant (omega arith)
