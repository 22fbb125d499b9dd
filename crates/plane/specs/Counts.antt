-- Document 02, card 4: "the plane inverse over its whole blocks before cropping, return how many samples were raised and how many lowered".
use Rattle.std.specs.Prelude.{List, ℕ, ◌*◌, ℤ}
use Rattle.lists.specs.Tab.{in_turn}
use Rattle.clamping.specs.Counts.{raised_one, lowered_one, counted}
use Rattle.block.specs.Clamped.{unclamped}
use Rattle.plane.specs.Plane.{blocks}
use Rattle.plane.specs.Scale.{Scale, stored_block, fitted}

-- the numbers before the clamp of a block, of its 64 coefficients
unfoldable pub block_numbers : Scale → List ℕ → List ℤ → List ℤ
block_numbers s quant cs = unclamped s.size (fitted s quant cs)

-- those of all blocks, each of them whole, one after the other
unfoldable pub plane_numbers : Scale → List ℤ → ℕ → ℕ → List ℕ → List ℤ
plane_numbers s cs w h quant = in_turn (blocks w * blocks h) (λ k. block_numbers s quant (stored_block cs k))

unfoldable pub plane_raised : Scale → List ℤ → ℕ → ℕ → List ℕ → ℕ
plane_raised s cs w h quant = counted raised_one (plane_numbers s cs w h quant)

unfoldable pub plane_lowered : Scale → List ℤ → ℕ → ℕ → List ℕ → ℕ
plane_lowered s cs w h quant = counted lowered_one (plane_numbers s cs w h quant)
