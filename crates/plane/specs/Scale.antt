-- Document 02, card 2: "three calls, the plane inverse with 8, 4 or 2 samples per block side".
use Rattle.std.specs.Prelude.{List, [], ◌∷◌, ◌++◌, ℕ, ◌+◌, ◌-◌, ◌*◌, ◌/◌, ℤ, pos}
use Rattle.lists.specs.Tab.{tab}
use Rattle.lists.specs.Grid.{grid, at, tiled}
use Rattle.refusals.specs.Refusals.{Test, ◌unless◌, ◌of◌}
use Rattle.clamping.specs.Clamping.{centered}
use Rattle.passes.specs.Passes.{Size, eight, four, two}
use Rattle.block.specs.Block.{block}
use Rattle.stored_blocks.specs.Dequantize.{product}
use Rattle.plane.specs.declared.decode.Scale.{Scale as CallScale}
use Rattle.plane.specs.declared.decode.Scale.TheVariants.{Full, Half, Quarter}
use Rattle.plane.specs.Plane.{blocks, plane_coefficients, size_tests}

-- what differs between the three calls: the size of the inverse block, by what the width and height are divided, and what becomes of a
-- product of coefficient and divisor
pub record Scale : Type 0 where
  pub size : Size
  pub by : ℕ
  pub fit : ℤ → ℤ

unfoldable pub unchanged : ℤ → ℤ
unchanged z = z

-- "Half and quarter clamp each product of coefficient and divisor to the signed 16-bit range"
unfoldable pub clamped16 : ℤ → ℤ
clamped16 z = centered 32768 z

abbrev pub full : Scale
full = record { size = eight; by = 1; fit = unchanged }

abbrev pub half : Scale
half = record { size = four; by = 2; fit = clamped16 }

abbrev pub quarter : Scale
quarter = record { size = two; by = 4; fit = clamped16 }

-- "the width and height divided by 1, 2 or 4, rounded up"
unfoldable pub cropped : Scale → ℕ → ℕ
cropped s n = (n + (s.by - 1)) / s.by

-- the coefficients of block k
unfoldable pub stored_block : List ℤ → ℕ → List ℤ
stored_block cs k = tab 64 (λ n. at (pos 0) 64 cs n k)

-- what the inverse block is handed, of the 64 coefficients of a block
unfoldable pub fitted : Scale → List ℕ → List ℤ → List ℤ
fitted s quant cs = tab 64 (λ n. s.fit (product cs quant n))

-- and its samples
unfoldable pub block_samples : Scale → List ℕ → List ℤ → List ℕ
block_samples s quant cs = block s.size (fitted s quant cs)

-- the plane inverse: a sample is that of the block that it lies in; "The result is cropped"
unfoldable pub plane_samples : Scale → List ℤ → ℕ → ℕ → List ℕ → List ℕ
plane_samples s cs w h quant = grid (cropped s w) (cropped s h) (tiled 0 s.size.side (blocks w) (λ k. block_samples s quant (stored_block cs k)))

-- "Order: 8, 1, 2, 3"; "1 means coefficients not 64 per block, and 3 an output not of the cropped size"
unfoldable pub plane_inverse_tests : Scale → List ℤ → ℕ → ℕ → List ℕ → List ℕ → List Test
plane_inverse_tests s cs w h quant out = size_tests w h ++ 1 unless cs of (64 * (blocks w * blocks h)) ∷ 2 unless quant of 64 ∷ 3 unless out of (cropped s w * cropped s h) ∷ []

-- a plane coded by card 1, and decoded
unfoldable pub recoded : Scale → List ℕ → ℕ → ℕ → List ℕ → List ℕ
recoded s samples w h quant = plane_samples s (plane_coefficients samples w h quant) w h quant

-- the scale of a call
abbrev pub scale_of : CallScale → Scale
scale_of Full = full
scale_of Half = half
scale_of Quarter = quarter
