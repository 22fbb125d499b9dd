-- Demand 3's second half, of a plane: how far each sample comes back.
use Rattle.std.specs.Prelude.{List, ℕ, ◌+◌, ◌*◌, ◌%◌, ◌^◌, ◌≤◌, ◌<◌, get_or, pos, nat_abs, ◌-ℤ◌}
use Rattle.lists.specs.Grid.{at}
use Rattle.bounds.specs.Demand3.{weighted_basis}

-- 8-bit samples, or quantizers
abbrev pub EightBit : List ℕ → Type 0
EightBit l = (i : ℕ) → get_or l i 0 ≤ 255

-- at each place (x, y) of a plane of w × h, "2^33 times the size of a - c is at most 2^34 plus" the weighted basis at the place in its block
abbrev pub NearPlane : List ℕ → ℕ → ℕ → List ℕ → List ℕ → Type 0
NearPlane quant w h a c =
    (x y : ℕ) → x < w → y < h → 2 ^ 33 * nat_abs (pos (at 0 w a x y) -ℤ pos (at 0 w c x y)) ≤ 2 ^ 34 + weighted_basis quant (x % 8) (y % 8)
