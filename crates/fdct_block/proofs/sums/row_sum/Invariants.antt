use lib.ListN.{get_or}
use lib.IntN.{pos, ◌*ℤ◌}
use Rattle.fdct_block.proofs.Terms.{Summed}
use Rattle.fdct_block.proofs.sums.row_sum.Given as goal

abbrev pub invariant-loop-k : goal.invariant-loop-k
invariant-loop-k l = Summed (λ k. get_or l.f k (pos 0) *ℤ get_or l.row k (pos 0)) l.k l.s
