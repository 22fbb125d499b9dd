use mathlib.Core.Path.{refl}
use native.Mathlib.Omega.{arith}
use Rattle.lists.specs.Below.{below}
use Rattle.lists.proofs.Below.{below_next, below_all}
use Rattle.forward.specs.Canonical.{up_to}
use Rattle.fdct.proofs.twelve_bit.is_12bit.Goals as goal

pub loop-i-init : goal.loop-i-init
unfolding below
loop-i-init c = refl

pub loop-i-preserved : goal.loop-i-preserved
loop-i-preserved c = below_next _ c.loop-i.i refl c.loop-i.invariant

pub returns : goal.returns
unfolding up_to
returns c = below_all _ c.loop-i.i 64 c.loop-i.invariant (omega arith)
