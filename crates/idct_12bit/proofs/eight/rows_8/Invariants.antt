use mir.Syntax.{w64}
use Rattle.gains.specs.Gains.{gains}
use Rattle.clamping.specs.Clamping.{sample12bit}
use Rattle.passes.specs.Passes.{pass}
use Rattle.block.proofs.Rows.{Stored}
use Rattle.idct_12bit.proofs.eight.rows_8.Given as goal

abbrev pub invariant-loop-y : goal.invariant-loop-y
invariant-loop-y l = Stored (pass w64 gains 17) sample12bit 8 l.w l.y l.output
