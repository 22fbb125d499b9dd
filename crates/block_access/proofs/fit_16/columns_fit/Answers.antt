use mathlib.Core.Path.{refl}
use mathlib.Core.List.{[]}
use native.Mathlib.Omega.{arith}
use Rattle.integers.specs.Fits16.{fits16}
use Rattle.lists.specs.Every.{every}
use Rattle.lists.proofs.Every.{every-next}
use Rattle.block_access.proofs.fit_16.columns_fit.Goals as goal

pub loop-column-init : goal.loop-column-init
unfolding every
loop-column-init g c = refl

pub loop-column-preserved : goal.loop-column-preserved
loop-column-preserved g c = every-next (every fits16) [] c.args.w.now c.loop-column.column-index c.loop-column.invariant (omega arith) c.all_fit-all.ensures
