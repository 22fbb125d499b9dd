-- Document 02, card 1: "A plane has width and height 1 to 4096, samples row by row. It is cut into blocks from the top left, rows of blocks
-- first; past the right or bottom edge the last column or row repeats."
use Rattle.std.specs.Prelude.{Bool, ◌&&◌, List, [], ◌∷◌, ◌++◌, ℕ, ◌+◌, ◌-◌, ◌*◌, ◌/◌, ◌%◌, min, leb, ℤ}
use Rattle.lists.specs.Grid.{grid, at}
use Rattle.refusals.specs.Refusals.{Test, ◌unless◌, ◌of◌}
use Rattle.forward.specs.Canonical.{canonical}

-- how many blocks n columns or rows take
unfoldable pub blocks : ℕ → ℕ
blocks n = (n + 7) / 8

-- the sample at (x, y): past the edge that of the last column or row
unfoldable pub sample_at : List ℕ → ℕ → ℕ → ℕ → ℕ → ℕ
sample_at samples w h x y = at 0 w samples (min x (w - 1)) (min y (h - 1))

-- the block in column x and row y of blocks
unfoldable pub block_at : List ℕ → ℕ → ℕ → ℕ → ℕ → List ℕ
block_at samples w h x y = grid 8 8 (λ i j. sample_at samples w h (8 * x + i) (8 * y + j))

-- block k, rows of blocks first
unfoldable pub block_of : List ℕ → ℕ → ℕ → ℕ → List ℕ
block_of samples w h k = block_at samples w h (k % blocks w) (k / blocks w)

-- "Each block's canonical coefficients go to the next 64 places of one 16-bit output": coefficient n of block k at 64k + n
unfoldable pub plane_coefficients : List ℕ → ℕ → ℕ → List ℕ → List ℤ
plane_coefficients samples w h quant = grid 64 (blocks w * blocks h) (λ n k. canonical (block_of samples w h k) quant n)

-- "Turned away: 8, width or height 0 or above 4096"
unfoldable pub measured : ℕ → Bool
measured n = leb 1 n && leb n 4096

abbrev pub size_tests : ℕ → ℕ → List Test
size_tests w h = 8 unless measured w ∷ 8 unless measured h ∷ []

-- those of the plane alone
abbrev pub plane_tests : List ℕ → ℕ → ℕ → List Test
plane_tests samples w h = 8 unless measured w ∷ 8 unless measured h ∷ 9 unless samples of (w * h) ∷ []

-- "Order: 8, 9, 2, 3"; "9, samples not width × height in number"; the output's "length is 64 per block (else 3)"
unfoldable pub forward_tests : List ℕ → ℕ → ℕ → List ℕ → List ℤ → List Test
forward_tests samples w h quant out = size_tests w h ++ 9 unless samples of (w * h) ∷ 2 unless quant of 64 ∷ 3 unless out of (64 * (blocks w * blocks h)) ∷ []
