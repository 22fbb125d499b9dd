-- A plane that was coded and decoded: each sample is one of one block, and where the clamp of half and quarter size changes nothing.
-- Assumes nothing.
use mathlib.Core.Path.{◌≡◌, ap, ◌∙◌}
use mathlib.Core.List.{List}
use Prim.Native.Nat.{ℕ, ◌+◌, ◌-◌, ◌*◌, ◌/◌, ◌%◌, ◌<◌, min}
use native.Mathlib.Omega.{arith}
use lib.IntN.{ℤ, pos, negsuc}
use Rattle.integers.specs.Fits16.{Fits16}
use Rattle.lists.specs.Grid.{grid, at, tiled}
use Rattle.lists.proofs.Tab.{tab-ext}
use Rattle.lists.proofs.Grid.{index, column-of, row_of, grid-at, grid-ext}
use Rattle.clamping.specs.Clamping.{centered}
use Rattle.forward.specs.Canonical.{coefficients_at, coefficients}
use Rattle.stored_blocks.specs.Dequantize.{product}
use Rattle.plane.specs.Plane.{blocks, sample_at, block_at, block_of, plane_coefficients}
use Rattle.plane.specs.Scale.{Scale, unchanged, clamped16, cropped, stored_block, fitted, block_samples, plane_samples, recoded}
use Rattle.plane.proofs.Scales.{Cropping}

-- ---- the coefficients of a plane, block by block

module _ (samples : List ℕ) (w h : ℕ) where
  -- inside the plane nothing repeats
  pub sample-inside : {x y : ℕ} → x < w → y < h → sample_at samples w h x y ≡ at 0 w samples x y
  unfolding sample_at
  sample-inside {x} {y} a b =
      let ex : min x (w - 1) ≡ x = omega arith in
      let ey : min y (h - 1) ≡ y = omega arith in
      λ i. at 0 w samples (ex i) (ey i)

  -- a sample of the plane stands in the block that it lies in
  pub block-sample : {x y : ℕ} → x < w → y < h → at 0 8 (block_at samples w h (x / 8) (y / 8)) (x % 8) (y % 8) ≡ at 0 w samples x y
  unfolding block_at
  block-sample {x} {y} a b =
      let ex : 8 * (x / 8) + x % 8 ≡ x = omega arith in
      let ey : 8 * (y / 8) + y % 8 ≡ y = omega arith in
      grid-at 0 8 8 _ (omega arith) (omega arith) ∙ (λ i. sample_at samples w h (ex i) (ey i)) ∙ sample-inside a b

  -- the block in column x and row y of blocks
  block-of : {x : ℕ} (y : ℕ) → x < blocks w → block_of samples w h (blocks w * y + x) ≡ block_at samples w h x y
  unfolding block_of
  block-of y b = λ i. block_at samples w h (column-of (blocks w) b y i) (row_of (blocks w) b y i)

  -- block k of what is stored is what the block entry writes for block k
  pub stored-coded : (quant : List ℕ) {k : ℕ} → k < blocks w * blocks h → stored_block (plane_coefficients samples w h quant) k ≡ coefficients (block_of samples w h k) quant
  unfolding stored_block plane_coefficients coefficients_at
  stored-coded quant b = tab-ext 64 _ _ (λ n a. grid-at (pos 0) 64 (blocks w * blocks h) _ a b)

-- ---- a plane coded and decoded

-- sample (x, y) is that of the block there
unfoldable pub recoded_at : Scale → List ℕ → ℕ → ℕ → List ℕ → ℕ → ℕ → ℕ
recoded_at s samples w h quant x y =
    let m = s.size.side in
    at 0 m (block_samples s quant (coefficients (block_at samples w h (x / m) (y / m)) quant)) (x % m) (y % m)

pub recoded-grid : (s : Scale) → Cropping s → (samples : List ℕ) (w h : ℕ) (quant : List ℕ) → recoded s samples w h quant ≡ grid (cropped s w) (cropped s h) (recoded_at s samples w h quant)
unfolding recoded plane_samples tiled recoded_at
recoded-grid s cr samples w h quant =
    let m = s.size.side in
    grid-ext (cropped s w) (cropped s h) _ _ (λ x y a b.
    let bx = cr.inside w x a in
    let by = cr.inside h y b in
    ap (λ (c : List ℤ). at 0 m (block_samples s quant c) (x % m) (y % m))
    (stored-coded samples w h quant (index (blocks w) bx by) ∙ ap (λ (l : List ℕ). coefficients l quant) (block-of samples w h (y / m) bx)))

-- ---- the clamp of products to 16 bits

pub fits_kept : (z : ℤ) → Fits16 z → clamped16 z ≡ z
unfolding clamped16 centered
fits_kept (pos n) f = ap pos (omega (arith, f.sfits))
fits_kept (negsuc n) f = ap negsuc (omega (arith, f.sfits))

-- a scale without its clamp
abbrev pub unclamped : Scale → Scale
unclamped s = record { size = s.size; by = s.by; fit = unchanged }

-- where the products of a block fit 16 bits, the clamp changes none
pub products-kept : (s : Scale) → s.fit ≡ clamped16 → (quant : List ℕ) (cs : List ℤ) → ((n : ℕ) → n < 64 → Fits16 (product cs quant n)) → fitted s quant cs ≡ fitted (unclamped s) quant cs
unfolding fitted unchanged
products-kept s e quant cs f = tab-ext 64 _ _ (λ n b. (λ i. e i (product cs quant n)) ∙ fits_kept (product cs quant n) (f n b))

-- and where those of every block do, the picture is the one without the clamp
pub samples-kept : (s : Scale) → Cropping s → s.fit ≡ clamped16 → (cs : List ℤ) (w h : ℕ) (quant : List ℕ) →
    ((k n : ℕ) → k < blocks w * blocks h → n < 64 → Fits16 (product (stored_block cs k) quant n)) → plane_samples s cs w h quant ≡ plane_samples (unclamped s) cs w h quant
unfolding plane_samples tiled cropped block_samples
samples-kept s cr e cs w h quant f =
    let m = s.size.side in
    grid-ext (cropped s w) (cropped s h) _ _ (λ x y a b.
    let k = blocks w * (y / m) + x / m in
    ap (λ (p : List ℤ). at 0 m (Rattle.block.specs.Block.block s.size p) (x % m) (y % m))
    (products-kept s e quant (stored_block cs k) (λ n. f k n (index (blocks w) (cr.inside w x a) (cr.inside h y b)))))
