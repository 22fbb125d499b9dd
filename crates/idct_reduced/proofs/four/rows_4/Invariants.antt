use Rattle.clamping.specs.Clamping.{sample_u8}
use Rattle.passes.specs.Passes.{four, row_pass}
use Rattle.block.proofs.Rows.{Stored}
use Rattle.idct_reduced.proofs.Columns.{Columns}
use Rattle.idct_reduced.proofs.four.rows_4.Given as goal

abbrev pub invariant-loop-y : goal.invariant-loop-y
invariant-loop-y l = Stored (row_pass four) sample_u8 4 l.w l.y l.output × Columns l.w l.y l.t
