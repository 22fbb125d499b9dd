use lib.IntN.{pos}
use mir.Syntax.{w64}
use Rattle.scaling.specs.Scaling.{descaled}
use Rattle.idct_12bit.proofs.Each.{Each}
use Rattle.idct_12bit.proofs.passes_12bit.descale_each.Given as goal

abbrev pub invariant-loop-i : goal.invariant-loop-i
invariant-loop-i l = Each (λ v. descaled w64 v l.shift) (pos 0) l.initial.values l.i l.values
