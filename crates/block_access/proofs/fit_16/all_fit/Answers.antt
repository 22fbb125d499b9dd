use mathlib.Core.Path.{refl, ap, ◌∙◌}
use borrow.Author.Rules.{rules}
use lib.ListN.{get_or}
use mir.Syntax.{w32}
use mir.ValLaws.{to_z-of_z}
use native.Mathlib.Omega.{arith}
use lib.IntN.{pos}
use Rattle.integers.specs.Fits16.{fits16}
use Rattle.lists.specs.Every.{every}
use Rattle.lists.proofs.Every.{every-next}
use Rattle.block_access.proofs.fit_16.all_fit.Goals as goal

pub loop-x-init : goal.loop-x-init
unfolding every
loop-x-init c = refl

pub loop-x-preserved : goal.loop-x-preserved
loop-x-preserved c = every-next fits16 (pos 0) c.args.values.now c.loop-x.x-index c.loop-x.invariant (omega arith) (c.fits_16-all.ensures ∙ ap fits16 (to_z-of_z w32 (get_or c.args.values.now c.loop-x.x-index (pos 0)) (search rules)))
