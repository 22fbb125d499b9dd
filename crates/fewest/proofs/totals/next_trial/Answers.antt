use mathlib.Core.Path.{ap, ◌∙◌}
use Prim.Native.Nat.{◌+◌, ◌*◌, ◌≤◌}
use native.Mathlib.Omega.{arith}
use lib.ListN.{length}
use Rattle.fewest.specs.Blocks.{block_trial}
use Rattle.fewest.proofs.Tables.{lent-table}
use Rattle.fewest.proofs.totals.next_trial.Goals as goal

pub returns-clause-value : goal.returns-clause-value
returns-clause-value c =
    let b = c.args.block.now in
    let fits : 64 * c.args.p + 64 ≤ length c.args.tables.now = omega arith in
    c.try_table.ensures.value ∙ ap (block_trial b.columns b.rows b.block b.sums) (lent-table c.args.tables.now c.args.p fits)
