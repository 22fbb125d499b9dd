use mathlib.Core.Path.{refl, ◌∙◌}
use native.Mathlib.Omega.{arith}
use lib.IntN.{pos}
use Rattle.integers.proofs.Fits16.{fits16-zero, fits16-local}
use Rattle.lists.proofs.Every.{every-at}
use Rattle.lists.proofs.Tab.{none, next, filled, tab-get_d}
use Rattle.idct_8x8.proofs.Fit.{cut}
use Rattle.idct_8x8.proofs.cut.narrow_8.Goals as goal

pub loop-k-init : goal.loop-k-init
loop-k-init c = none _ 8 _ refl

pub to_i16-requires : goal.to_i16-requires
to_i16-requires c = fits16-local (every-at c.requires (pos 0) fits16-zero _)

pub loop-k-preserved : goal.loop-k-preserved
loop-k-preserved c = next c.loop-k.invariant (omega arith) (cut (every-at c.requires (pos 0) fits16-zero _) c.to_i16.ensures)

pub returns : goal.returns
returns c = filled c.loop-k.invariant (omega arith) ∙ tab-get_d (pos 0) c.args.q 8 (omega arith)
