-- Strips of eight rows, each coded and decoded as a plane of its own, are one after the other the whole plane, coded and decoded.
-- Assumes nothing.
use mathlib.Core.Path.{◌≡◌, sym, ap, ◌∙◌}
use mathlib.Core.List.{List, ◌++◌}
use Prim.Native.Nat.{ℕ, zero, suc, ◌+◌, ◌-◌, ◌*◌, ◌/◌, ◌%◌, ◌≤◌, ◌<◌, min}
use native.Mathlib.Nat.{mul-zero}
use native.Mathlib.Omega.{arith}
use lib.ListN.{get_or, take, drop}
use lib.Seq.{get_or-take, get_or-drop}
use Rattle.lists.specs.Tab.{tab, in_turn}
use Rattle.lists.specs.Grid.{grid, at}
use Rattle.lists.proofs.Grid.{index, grid-ext, grid-below}
use Rattle.passes.specs.Passes.{eight}
use Rattle.forward.specs.Canonical.{coefficients}
use Rattle.plane.specs.Plane.{blocks, sample_at, block_at}
use Rattle.plane.specs.Scale.{full, block_samples, recoded}
use Rattle.plane.specs.Strips.{strip_rows, strip}
use Rattle.plane.proofs.Scales.{cropping-full, cropped-full}
use Rattle.plane.proofs.Recoded.{recoded_at, recoded-grid}

module _ (samples : List ℕ) (w h : ℕ) (some : 0 < w) where
  -- a sample of a strip, its own last row repeated, is that of the plane
  strip-sample : {s : ℕ} → s < blocks h → (x y : ℕ) → y < 8 → sample_at (strip samples w h s) w (strip_rows h s) x y ≡ sample_at samples w h x (8 * s + y)
  unfolding sample_at strip strip_rows blocks
  strip-sample {s} b x y l =
      let e : 8 * s + min y (strip_rows h s - 1) ≡ min (8 * s + y) (h - 1) = omega arith in
      read (strip_rows h s) (min x (w - 1)) (min y (strip_rows h s - 1)) (omega arith) (omega arith) ∙ ap (λ (k : ℕ). at 0 w samples (min x (w - 1)) k) e
    where
      read : (n x y : ℕ) → x < w → y < n → at 0 w (take (w * n) (drop (w * (8 * s)) samples)) x y ≡ at 0 w samples x (8 * s + y)
      read n x y a b =
          get_or-take (w * n) (drop (w * (8 * s)) samples) (w * y + x) 0 (index w a b) ∙ get_or-drop (w * (8 * s)) samples (w * y + x) 0
          ∙ ap (λ (k : ℕ). get_or samples k 0) (omega arith)

  strip-block : {s : ℕ} → s < blocks h → (x : ℕ) → block_at (strip samples w h s) w (strip_rows h s) x 0 ≡ block_at samples w h x s
  unfolding block_at
  strip-block {s} b x = grid-ext 8 8 _ _ (λ i j a l. ap (sample_at (strip samples w h s) w (strip_rows h s) (8 * x + i)) (omega arith) ∙ strip-sample b (8 * x + i) j l)

  module _ (quant : List ℕ) where
    strip-recoded : {s : ℕ} → s < blocks h → recoded full (strip samples w h s) w (strip_rows h s) quant ≡ grid w (strip_rows h s) (λ x y. recoded_at full samples w h quant x (8 * s + y))
    unfolding recoded_at eight strip_rows
    strip-recoded {s} b =
        recoded-grid full cropping-full (strip samples w h s) w (strip_rows h s) quant
        ∙ (λ i. grid (cropped-full w i) (cropped-full (strip_rows h s) i) (recoded_at full (strip samples w h s) w (strip_rows h s) quant))
        ∙ grid-ext w (strip_rows h s) _ _ (λ x y a l.
        let e : y / 8 ≡ 0 = omega arith in
        let f : (8 * s + y) / 8 ≡ s = omega arith in
        let g : (8 * s + y) % 8 ≡ y % 8 = omega arith in
        let same = ap (block_at (strip samples w h s) w (strip_rows h s) (x / 8)) e ∙ strip-block b (x / 8) ∙ ap (block_at samples w h (x / 8)) (sym f) in
        λ i. at 0 8 (block_samples full quant (coefficients (same i) quant)) (x % 8) (sym g i))

    -- the first n strips are the first 8n rows
    strips : (n : ℕ) → n ≤ blocks h → in_turn n (λ s. recoded full (strip samples w h s) w (strip_rows h s) quant) ≡ grid w (min (8 * n) h) (recoded_at full samples w h quant)
    unfolding in_turn grid tab blocks strip_rows
    strips zero b =
        let e : min (8 * 0) h ≡ 0 = omega arith in
        sym (ap (λ (k : ℕ). tab k (λ i. recoded_at full samples w h quant (i % w) (i / w))) (ap (λ (k : ℕ). w * k) e ∙ mul-zero w))
    strips (suc n) b =
        let e : min (8 * n) h ≡ 8 * n = omega arith in
        let f : 8 * n + strip_rows h n ≡ min (8 * suc n) h = omega arith in
        (λ i. (strips n (omega arith) ∙ ap (λ (k : ℕ). grid w k (recoded_at full samples w h quant)) e) i ++ strip-recoded b i)
        ∙ grid-below w (8 * n) (strip_rows h n) (recoded_at full samples w h quant) some ∙ ap (λ (k : ℕ). grid w k (recoded_at full samples w h quant)) f

    -- all of them are the whole
    pub strips-all : in_turn (blocks h) (λ s. recoded full (strip samples w h s) w (strip_rows h s) quant) ≡ recoded full samples w h quant
    unfolding blocks
    strips-all =
        let e : min (8 * blocks h) h ≡ h = omega arith in
        strips (blocks h) (omega arith) ∙ (λ i. grid (sym (cropped-full w) i) ((e ∙ sym (cropped-full h)) i) (recoded_at full samples w h quant))
        ∙ sym (recoded-grid full cropping-full samples w h quant)
