use mathlib.Core.Path.{◌∙◌}
use Rattle.std.proofs.Common.{rules}
use native.Mathlib.Omega.{arith}
use lib.IntN.{pos}
use mir.Syntax.{w32}
use Rattle.lists.proofs.Tab.{none, next, filled, map-get_d}
use Rattle.scaling.specs.Scaling.{descaled}
use Rattle.scaling.proofs.Rounding.{descaled-read}
use Rattle.passes.proofs.descale_8.Goals as goal

pub loop-i-preserved : goal.loop-i-preserved
loop-i-preserved c = next c.loop-i.invariant (omega arith) (descaled-read w32 _ (search rules) c.descale_by.ensures)

pub returns : goal.returns
returns c = filled c.loop-i.invariant (omega arith) ∙ map-get_d (λ v. descaled w32 v c.args.shift) (pos 0) c.args.values 8 c.well_formed.0.1.0.1

pub loop-i-init : goal.loop-i-init
loop-i-init c = none _ 8 _ (search rules)
