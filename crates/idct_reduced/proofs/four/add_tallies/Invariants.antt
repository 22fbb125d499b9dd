use Prim.Native.Nat.{ℕ, ◌+◌, ◌≤◌}
use mathlib.Core.Path.{◌≡◌}
use lib.ListN.{get_or}
use lib.IntN.{pos}
use Rattle.lists.proofs.Tab.{Filled}
use Rattle.clamping.specs.Rule.{rule_u8}
use Rattle.clamping.specs.Counts.{tally_one}
use Rattle.idct_reduced.proofs.four.add_tallies.Given as goal

-- the first x are added to, the others are as they were
abbrev pub invariant-loop-x : goal.invariant-loop-x
invariant-loop-x l = Filled (λ k. get_or l.initial.t k 0 + tally_one (rule_u8 (get_or l.q k (pos 0)))) 4 l.x l.t × ((k : ℕ) → l.x ≤ k → get_or l.t k 0 ≡ get_or l.initial.t k 0)
