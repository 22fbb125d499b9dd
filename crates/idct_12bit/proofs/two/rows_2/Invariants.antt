use mir.Syntax.{w64}
use Rattle.gains.specs.Gains.{gains2}
use Rattle.clamping.specs.Clamping.{sample12bit}
use Rattle.passes.specs.Passes.{pass}
use Rattle.block.proofs.Rows.{Stored}
use Rattle.idct_12bit.proofs.two.rows_2.Given as goal

abbrev pub invariant-loop-y : goal.invariant-loop-y
invariant-loop-y l = Stored (pass w64 gains2 19) sample12bit 2 l.w l.y l.output
