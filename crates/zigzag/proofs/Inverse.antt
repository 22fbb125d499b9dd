-- The two tables are each other's inverse: at each of the 64 places and for each of the 64 indices.
-- Assumes nothing.
use mathlib.Core.Path.{◌≡◌}
use mathlib.Core.Bool.{Bool}
use mathlib.Core.List.{List, flat_map}
use Prim.Native.Nat.{ℕ, ◌<◌}
use lib.Dec.{T, eqb, eqb→eq}
use lib.ListN.{get_or}
use Rattle.lists.specs.Tab.{tab}
use Rattle.lists.specs.Below.{below}
use Rattle.lists.proofs.Below.{below_at}
use Rattle.zigzag.specs.Zigzag.{diagonal, walked, zigzag_order, place_in, places}

-- entry n of `back` leads to a place of `there` that holds n
abbrev returns_to : List ℕ → List ℕ → ℕ → Bool
returns_to there back n = eqb (get_or there (get_or back n 0) 64) n

natural-test : T (below 64 (returns_to zigzag_order places))
unfolding flat_map tab below diagonal walked zigzag_order place_in places
natural-test = tt

place-test : T (below 64 (returns_to places zigzag_order))
unfolding flat_map tab below diagonal walked zigzag_order place_in places
place-test = tt

pub natural-of-place : (n : ℕ) → n < 64 → get_or zigzag_order (get_or places n 0) 64 ≡ n
natural-of-place n h = eqb→eq _ _ (below_at 64 (returns_to zigzag_order places) natural-test n h)

pub place-of-natural : (z : ℕ) → z < 64 → get_or places (get_or zigzag_order z 0) 64 ≡ z
place-of-natural z h = eqb→eq _ _ (below_at 64 (returns_to places zigzag_order) place-test z h)
