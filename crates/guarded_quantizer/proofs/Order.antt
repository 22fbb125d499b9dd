-- The AC places in zigzag order.
-- Assumes nothing.
use Rattle.std.specs.Prelude.{ℕ, zero, suc, ◌<◌, ◌≤◌, Bool, ◌&&◌, T, ltb, leb, List, get_or}
use mathlib.Core.List.{flat_map}
use native.Mathlib.Omega.{arith}
use lib.Dec.{leb→le, ltb→lt}
use mir.Facts.{and_yes}
use Rattle.lists.specs.Tab.{tab}
use Rattle.lists.specs.Below.{below}
use Rattle.lists.proofs.Below.{below_at}
use Rattle.zigzag.specs.Zigzag.{diagonal, walked, zigzag_order, place_in, places}

-- place i + 1 of a table holds 1 to 63
abbrev holds-ac : List ℕ → ℕ → Bool
holds-ac l i = leb 1 (get_or l (suc i) 0) && ltb (get_or l (suc i) 0) 64

tested : (l : List ℕ) → T (below 63 (holds-ac l)) → (z : ℕ) → 1 ≤ z → z < 64 → (1 ≤ get_or l z 0) × (get_or l z 0 < 64)
tested l t zero a h = absurd (omega arith)
tested l t (suc i) a h =
    let both = and_yes (leb 1 (get_or l (suc i) 0)) (ltb (get_or l (suc i) 0) 64) (below_at 63 (holds-ac l) t i (omega arith)) in
    (leb→le _ _ both.0, ltb→lt _ _ both.1)

order-test : T (below 63 (holds-ac zigzag_order))
unfolding flat_map tab below diagonal walked zigzag_order
order-test = tt

places-test : T (below 63 (holds-ac places))
unfolding flat_map tab below diagonal walked zigzag_order place_in places
places-test = tt

-- places 1 to 63 hold the coefficients 1 to 63
pub ac-index : (z : ℕ) → 1 ≤ z → z < 64 → (1 ≤ get_or zigzag_order z 0) × (get_or zigzag_order z 0 < 64)
ac-index = tested zigzag_order order-test

-- and the coefficients 1 to 63 stand at places 1 to 63
pub ac-found : (n : ℕ) → 1 ≤ n → n < 64 → (1 ≤ get_or places n 0) × (get_or places n 0 < 64)
ac-found = tested places places-test
