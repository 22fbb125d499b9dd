use Rattle.lists.proofs.Tab.{Filled}
use Rattle.guarded_quantizer.specs.Transform.{fdct8}
use Rattle.guarded_quantizer.specs.Values.{row}
use Rattle.fdct_f64.proofs.fdct_rows.Given as goal

abbrev pub invariant-loop-y : goal.invariant-loop-y
invariant-loop-y l = Filled (λ k. fdct8 (row l.block k)) 8 l.y l.rows
