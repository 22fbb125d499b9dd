use mathlib.Core.Path.{◌∙◌}
use mathlib.Core.List.{[]}
use native.Mathlib.Omega.{arith}
use Rattle.lists.proofs.Tab.{tab-get_d}
use Rattle.idct_8x8.proofs.row_pass.rows_i32.Goals as goal

pub put_rows-requires : goal.put_rows-requires
put_rows-requires c = (omega arith, (omega arith, (tab-get_d [] c.pass_rows_i32.result 8 (omega arith) ∙ c.pass_rows_i32.ensures, c.requires)))
