use Prim.Native.Nat.{◌+◌, ◌*◌}
use lib.ListN.{get_or}
use lib.Ieee.{nan}
use Rattle.lists.proofs.Tab.{Filled}
use Rattle.transform.specs.Settled.{by_value}
use Rattle.transform.proofs.guarded.each_coefficient.Given as goal

abbrev pub invariant-loop-u : goal.invariant-loop-u
invariant-loop-u l = Filled (λ k. by_value l.block l.quant (8 * l.v + k) (get_or l.scaled k nan)) 8 l.u l.row
