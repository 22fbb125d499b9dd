use Rattle.fewest.specs.Blocks.{errors_in, counts_in}
use Rattle.fewest.proofs.PlaneSums.{Sums}
use Rattle.fewest.proofs.totals.add_plane.Given as goal

abbrev pub invariant-loop-k : goal.invariant-loop-k
invariant-loop-k l = Sums l.plane.samples.now l.plane.width l.plane.height l.tables l.n l.k (errors_in l.all) (counts_in l.all) l.last
