-- A table is `places` where it holds each index's place: one computed test, far cheaper than the two lists compared.
-- Assumes nothing.
use mathlib.Core.Path.{◌≡◌}
use mathlib.Core.Bool.{Bool}
use mathlib.Core.List.{List}
use Prim.Native.Nat.{ℕ}
use lib.Dec.{T, eqb, eqb→eq}
use lib.ListN.{length, get_or}
use Rattle.lists.specs.Below.{below}
use Rattle.lists.proofs.Below.{below_at}
use Rattle.lists.proofs.Tab.{by-elements}
use Rattle.zigzag.specs.Zigzag.{zigzag_order, place_in, places}

abbrev pub holds-place : List ℕ → ℕ → Bool
holds-place table n = eqb (get_or table n 0) (place_in zigzag_order n)

pub places-by : (table : List ℕ) → length table ≡ 64 → T (below 64 (holds-place table)) → table ≡ places
unfolding places
places-by table e t = by-elements 64 (place_in zigzag_order) 0 table e (λ n h. eqb→eq _ _ (below_at 64 (holds-place table) t n h))
