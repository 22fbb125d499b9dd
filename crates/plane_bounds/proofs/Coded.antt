-- A coded plane: its products fit 16 bits, so the clamp of half and quarter size changes none, and at full size each sample comes back near.
-- Assumes nothing.
use mathlib.Core.Path.{◌≡◌, refl, sym, ap, subst, subst₂, ◌∙◌}
use mathlib.Core.List.{List}
use Prim.Native.Nat.{ℕ, ◌+◌, ◌*◌, ◌/◌, ◌%◌, ◌^◌, ◌≤◌, ◌<◌, zero-le}
use native.Mathlib.Omega.{arith}
use lib.ListN.{get_or}
use lib.IntN.{ℤ, pos, nat_abs, ◌-ℤ◌}
use Rattle.integers.specs.Fits16.{Fits16}
use Rattle.integers.proofs.Fits16.{fits16-zero}
use Rattle.lists.specs.Grid.{grid, at}
use Rattle.lists.proofs.Tab.{get_d-tab, get_d-every}
use Rattle.lists.proofs.Every.{every-at}
use Rattle.lists.proofs.Grid.{grid-at}
use Rattle.passes.specs.Passes.{eight}
use Rattle.forward.specs.Canonical.{coefficients}
use Rattle.stored_blocks.specs.Dequantize.{product, dequantized}
use Rattle.bounds.specs.Demand3.{products, decoded, weighted_basis}
use Rattle.bounds.proofs.Near.{products-fit, near}
use Rattle.plane.specs.Plane.{blocks, sample_at, block_at, block_of, plane_coefficients}
use Rattle.plane.specs.Scale.{Scale, unchanged, clamped16, full, half, quarter, stored_block, fitted, block_samples, recoded}
use Rattle.plane.proofs.Scales.{Cropping, cropping-full, cropping-half, cropping-quarter, cropped-full}
use Rattle.plane.proofs.Recoded.{recoded_at, recoded-grid, stored-coded, block-sample, unclamped, samples-kept}
use Rattle.plane_bounds.specs.Near.{EightBit, NearPlane}

module _ (samples : List ℕ) (w h : ℕ) (quant : List ℕ) (bright : EightBit samples) (most : EightBit quant) where
  block-bright : (x y : ℕ) → EightBit (block_at samples w h x y)
  unfolding block_at grid sample_at
  block-bright x y = get_d-every (λ (k : ℕ). k ≤ 255) 64 _ 0 zero-le (λ i b. bright _)

  -- the products of a coded plane fit 16 bits
  pub coded-fit : (k n : ℕ) → k < blocks w * blocks h → n < 64 → Fits16 (product (stored_block (plane_coefficients samples w h quant) k) quant n)
  unfolding products dequantized block_of
  coded-fit k n l b =
      subst Fits16 (get_d-tab 64 _ (pos 0) n b ∙ ap (λ (cs : List ℤ). product cs quant n) (sym (stored-coded samples w h quant l)))
      (every-at (products-fit quant (block_of samples w h k) most (block-bright (k % blocks w) (k / blocks w))) (pos 0) fits16-zero n)

  -- so that no scale's clamp changes what it shows of one
  coded_kept : (s : Scale) → Cropping s → s.fit ≡ clamped16 → recoded s samples w h quant ≡ recoded (unclamped s) samples w h quant
  unfolding recoded
  coded_kept s cr e = samples-kept s cr e (plane_coefficients samples w h quant) w h quant coded-fit

  pub half-kept : recoded half samples w h quant ≡ recoded (unclamped half) samples w h quant
  half-kept = coded_kept half cropping-half refl

  pub quarter-kept : recoded quarter samples w h quant ≡ recoded (unclamped quarter) samples w h quant
  quarter-kept = coded_kept quarter cropping-quarter refl

  -- at full size a sample comes back as demand 3's blocks do
  back : {x y : ℕ} → x < w → y < h → at 0 w (recoded full samples w h quant) x y ≡ at 0 8 (decoded (block_at samples w h (x / 8) (y / 8)) quant) (x % 8) (y % 8)
  unfolding recoded_at eight block_samples fitted unchanged decoded products dequantized
  back {x} {y} a b =
      ap (λ (l : List ℕ). at 0 w l x y) (recoded-grid full cropping-full samples w h quant ∙ (λ i. grid (cropped-full w i) (cropped-full h i) (recoded_at full samples w h quant)))
      ∙ grid-at 0 w h (recoded_at full samples w h quant) a b

  -- demand 3: within its bound of the plane's own sample
  pub near-plane : NearPlane quant w h samples (recoded full samples w h quant)
  near-plane x y a b =
      subst₂ (λ (s t : ℕ). 2 ^ 33 * nat_abs (pos s -ℤ pos t) ≤ 2 ^ 34 + weighted_basis quant (x % 8) (y % 8)) (block-sample samples w h a b) (sym (back a b))
      (near quant (block_at samples w h (x / 8) (y / 8)) most (block-bright (x / 8) (y / 8)) (x % 8) (y % 8) (omega arith) (omega arith))
