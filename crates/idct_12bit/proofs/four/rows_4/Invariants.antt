use mir.Syntax.{w64}
use Rattle.gains.specs.Gains.{gains4}
use Rattle.clamping.specs.Clamping.{sample12bit}
use Rattle.passes.specs.Passes.{pass}
use Rattle.block.proofs.Rows.{Stored}
use Rattle.idct_12bit.proofs.four.rows_4.Given as goal

abbrev pub invariant-loop-y : goal.invariant-loop-y
invariant-loop-y l = Stored (pass w64 gains4 18) sample12bit 4 l.w l.y l.output
