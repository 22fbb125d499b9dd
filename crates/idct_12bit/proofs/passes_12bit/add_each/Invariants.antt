use lib.IntN.{pos, ◌+ℤ◌}
use mir.Syntax.{w32}
use Rattle.integers.specs.Wrap.{wrap}
use Rattle.idct_12bit.proofs.Each.{Each}
use Rattle.idct_12bit.proofs.passes_12bit.add_each.Given as goal

abbrev pub invariant-loop-i : goal.invariant-loop-i
invariant-loop-i l = Each (λ v. wrap w32 (v +ℤ l.x)) (pos 0) l.initial.values l.i l.values
