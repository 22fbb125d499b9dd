use mathlib.Core.Path.{refl, ◌∙◌}
use borrow.Author.Rules.{rules}
use native.Mathlib.Omega.{arith}
use lib.IntN.{pos}
use mir.Syntax.{w32, w64}
use Rattle.integers.proofs.Word.{widened-read}
use Rattle.lists.proofs.Tab.{none, next, filled, tab-get_d}
use Rattle.idct_12bit.proofs.passes_12bit.widen_8.Goals as goal

pub loop-i-preserved : goal.loop-i-preserved
loop-i-preserved c = next c.loop-i.invariant (omega arith) (widened-read w32 w64 tt (search rules) c.from.ensures)

pub returns : goal.returns
returns c = filled c.loop-i.invariant (omega arith) ∙ tab-get_d (pos 0) c.args.p 8 (omega arith)

pub loop-i-init : goal.loop-i-init
loop-i-init c = none _ 8 _ refl
