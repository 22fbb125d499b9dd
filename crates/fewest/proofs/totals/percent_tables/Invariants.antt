use Rattle.fewest.proofs.Tables.{Made}
use Rattle.fewest.proofs.totals.percent_tables.Given as goal

abbrev pub invariant-loop-p : goal.invariant-loop-p
invariant-loop-p l = Made l.base l.p l.tables
