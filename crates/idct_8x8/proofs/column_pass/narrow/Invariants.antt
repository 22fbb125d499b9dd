use mathlib.Core.Path.{◌≡◌}
use Rattle.block.proofs.Load.{loaded_first}
use Rattle.idct_8x8.proofs.column_pass.narrow.Given as goal

abbrev pub invariant-loop-i : goal.invariant-loop-i
invariant-loop-i g l = l.cut ≡ loaded_first l.numbers l.i
