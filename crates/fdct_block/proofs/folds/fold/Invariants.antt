use Prim.Native.Nat.{ℕ, ◌*◌, ◌/◌, ◌%◌}
use mathlib.Core.List.{List}
use lib.IntN.{ℤ}
use Rattle.lists.proofs.Tab.{Filled}
use Rattle.forward.specs.Parity.{folded}
use Rattle.fdct_block.proofs.folds.fold.Given as goal

abbrev pub at : List ℤ → ℕ → ℕ → ℕ → ℤ
at c u v k = folded c u v (k % 4) (k / 4)

abbrev pub invariant-loop-y : goal.invariant-loop-y
invariant-loop-y l = Filled (at l.samples l.u l.v) 16 (4 * l.y) l.quadrant
