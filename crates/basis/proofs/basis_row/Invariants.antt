use Prim.Native.Nat.{◌+◌, ◌*◌}
use lib.ListN.{get_or}
use lib.IntN.{pos}
use Rattle.lists.proofs.Tab.{Filled}
use Rattle.basis.specs.Basis.{basis_table}
use Rattle.basis.proofs.basis_row.Given as goal

abbrev pub invariant-loop-k : goal.invariant-loop-k
invariant-loop-k l = Filled (λ j. get_or basis_table (16 * l.n + j) (pos 0)) 16 l.k l.row
