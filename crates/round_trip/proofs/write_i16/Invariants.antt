use lib.ListN.{get_or}
use lib.IntN.{pos}
use Rattle.lists.proofs.Tab.{Filled}
use Rattle.round_trip.proofs.write_i16.Given as goal

abbrev pub invariant-loop-n : goal.invariant-loop-n
invariant-loop-n l = Filled (λ k. get_or l.products k (pos 0)) 64 l.n l.out
