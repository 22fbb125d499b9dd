-- A sum over a plane's samples, block by block: the squared error of a plane is the sum of its blocks', each over what lies in the plane.
-- Assumes nothing.
use mathlib.Core.Path.{◌≡◌, refl, sym, ap, ap₂, ◌∙◌}
use mathlib.Core.Bool.{Bool, true, false, cond}
use mathlib.Core.List.{List}
use Prim.Native.Nat.{ℕ, ◌+◌, ◌-◌, ◌*◌, ◌/◌, ◌%◌, ◌≤◌, ◌<◌, min}
use native.Mathlib.Nat.{mul-zero}
use native.Mathlib.Decide.{dec_lt}
use native.Mathlib.Omega.{arith}
use borrow.Author.Tests.{lt-ltb, le-ltb}
use lib.Dec.{ltb}
use lib.ListN.{get_or}
use Rattle.lists.specs.Grid.{grid, at}
use Rattle.lists.proofs.Grid.{placed, grid-at}
use Rattle.passes.specs.Passes.{eight}
use Rattle.forward.specs.Sum.{total}
use Rattle.forward.specs.Canonical.{coefficients}
use Rattle.forward.proofs.Sum.{total_ext, total-const, total-swap, total-append, total-grid}
use Rattle.plane.specs.Plane.{blocks, block_at, block_of}
use Rattle.plane.specs.Scale.{full, block_samples, recoded}
use Rattle.plane.proofs.Scales.{cropping-full, cropped-full}
use Rattle.plane.proofs.Recoded.{block-sample, recoded_at, recoded-grid}
use Rattle.fewest.specs.Fewest.{squared, plane_error}
use Rattle.fewest.specs.Blocks.{error_term, error_within, block_error, error_of}

total-none : (n : ℕ) (f : ℕ → ℕ) → ((i : ℕ) → i < n → f i ≡ 0) → total n f ≡ 0
total-none n f h = total_ext n f (λ i. 0) h ∙ total-const n 0 ∙ mul-zero n

-- f below n, and 0 from there on
total-crop : (f : ℕ → ℕ) (n m : ℕ) → n ≤ m → total m (λ x. cond (ltb x n) (f x) 0) ≡ total n f
total-crop f n m l =
    let e : m ≡ n + (m - n) = omega arith in
    ap (λ (k : ℕ). total k (λ x. cond (ltb x n) (f x) 0)) e ∙ total-append _ n (m - n)
    ∙ ap₂ ◌+◌ (total_ext n _ f (λ x b. ap (λ (t : Bool). cond t (f x) 0) (lt-ltb x n b))) (total-none (m - n) _ (λ j b. ap (λ (t : Bool). cond t (f (n + j)) 0) (le-ltb (n + j) n (omega arith))))
    ∙ omega arith

nothing : (t : Bool) → ◌≡◌ {A = ℕ} (cond t 0 0) 0
nothing true = refl
nothing false = refl

-- g at a place of a plane, and 0 past its edges
abbrev within : ℕ → ℕ → (ℕ → ℕ → ℕ) → ℕ → ℕ → ℕ
within w h g x y = cond (ltb x w) (cond (ltb y h) (g x y) 0) 0

-- block by block, what lies past the edges left out
pub total-tiles : (w h : ℕ) (g : ℕ → ℕ → ℕ) →
    total (w * h) (λ i. g (i % w) (i / w)) ≡ total (blocks w * blocks h) (λ k. total 64 (λ t. within w h g (8 * (k % blocks w) + t % 8) (8 * (k / blocks w) + t / 8)))
unfolding blocks
total-tiles w h g =
    total-grid w h g
    ∙ sym (total-crop (λ y. total w (λ x. g x y)) h (8 * blocks h) (omega arith))
    ∙ total_ext (8 * blocks h) _ _ (λ y b. row y (dec_lt y h))
    ∙ in_rows (λ y. total (8 * blocks w) (λ x. within w h g x y)) (blocks h)
    ∙ total_ext (blocks h) _ _ (λ Y b.
    total_ext 8 _ _ (λ j c. in_rows (λ x. within w h g x (8 * Y + j)) (blocks w))
    ∙ total-swap 8 (blocks w) (λ j X. total 8 (λ i. within w h g (8 * X + i) (8 * Y + j)))
    ∙ total_ext (blocks w) _ _ (λ X c. sym (total-grid 8 8 (λ i j. within w h g (8 * X + i) (8 * Y + j)))))
    ∙ sym (total-grid (blocks w) (blocks h) (λ X Y. total 64 (λ t. within w h g (8 * X + t % 8) (8 * Y + t / 8))))
  where
    -- eight terms at a time
    in_rows : (f : ℕ → ℕ) (n : ℕ) → total (8 * n) f ≡ total n (λ Y. total 8 (λ j. f (8 * Y + j)))
    in_rows f n = total_ext (8 * n) f _ (λ i b. ap f (sym (placed 8 n i b).1.1)) ∙ total-grid 8 n (λ j Y. f (8 * Y + j))

    row : (y : ℕ) → Dec (y < h) → cond (ltb y h) (total w (λ x. g x y)) 0 ≡ total (8 * blocks w) (λ x. within w h g x y)
    row y (yes l) =
        ap (λ (t : Bool). cond t (total w (λ x. g x y)) 0) (lt-ltb y h l) ∙ sym (total-crop (λ x. g x y) w (8 * blocks w) (omega arith))
        ∙ total_ext (8 * blocks w) _ _ (λ x b. ap (λ (t : Bool). cond (ltb x w) (cond t (g x y) 0) 0) (sym (lt-ltb y h l)))
    row y (no l) =
        ap (λ (t : Bool). cond t (total w (λ x. g x y)) 0) (le-ltb y h (omega arith))
        ∙ sym (total-none (8 * blocks w) _ (λ x b. ap (λ (t : Bool). cond (ltb x w) (cond t (g x y) 0) 0) (le-ltb y h (omega arith)) ∙ nothing (ltb x w)))

-- a place of a block lies in the plane where it is among the first columns or rows
inside : (n x i : ℕ) → i < 8 → ltb (8 * x + i) n ≡ ltb i (min 8 (n - 8 * x))
inside n x i b = go (dec_lt (8 * x + i) n)
  where
    go : Dec (8 * x + i < n) → ltb (8 * x + i) n ≡ ltb i (min 8 (n - 8 * x))
    go (yes l) = lt-ltb (8 * x + i) n l ∙ sym (lt-ltb i (min 8 (n - 8 * x)) (omega arith))
    go (no l) = le-ltb (8 * x + i) n (omega arith) ∙ sym (le-ltb i (min 8 (n - 8 * x)) (omega arith))

module _ (samples : List ℕ) (w h : ℕ) (quant : List ℕ) where
  -- a sample against the one that comes back, in the block that both lie in
  error_at_place : ℕ → ℕ → ℕ → ℕ → ℕ
  error_at_place X Y i j =
      let block = block_at samples w h X Y in
      squared (at 0 8 block i j) (at 0 8 (block_samples full quant (coefficients block quant)) i j)

  pub error-blocks : plane_error samples w h quant ≡ total (blocks w * blocks h) (error_of samples w h quant)
  unfolding plane_error error_of block_error error_within error_term block_of recoded_at eight error_at_place squared
  error-blocks =
      total_ext (w * h) _ _ (λ i b. place i b (placed w h i b))
      ∙ total-tiles w h (λ x y. error_at_place (x / 8) (y / 8) (x % 8) (y % 8))
      ∙ total_ext (blocks w * blocks h) _ _ (λ k b. total_ext 64 _ _ (λ t c. term (k % blocks w) (k / blocks w) t c))
    where
      place : (i : ℕ) → i < w * h → (i % w < w) × ((i / w < h) × (w * (i / w) + i % w ≡ i)) →
          squared (get_or samples i 0) (get_or (recoded full samples w h quant) i 0) ≡ error_at_place (i % w / 8) (i / w / 8) (i % w % 8) (i / w % 8)
      place i b p =
          let back = recoded-grid full cropping-full samples w h quant ∙ (λ j. grid (cropped-full w j) (cropped-full h j) (recoded_at full samples w h quant)) in
          (λ j. squared (get_or samples (sym p.1.1 j) 0) (get_or (back j) (sym p.1.1 j) 0))
          ∙ (λ j. squared (sym (block-sample samples w h p.0 p.1.0) j) (grid-at 0 w h (recoded_at full samples w h quant) p.0 p.1.0 j))

      term : (X Y t : ℕ) → t < 64 →
          within w h (λ x y. error_at_place (x / 8) (y / 8) (x % 8) (y % 8)) (8 * X + t % 8) (8 * Y + t / 8)
          ≡ error_term (min 8 (w - 8 * X)) (min 8 (h - 8 * Y)) (block_at samples w h X Y) (block_samples full quant (coefficients (block_at samples w h X Y) quant)) t
      term X Y t c =
          let ex : (8 * X + t % 8) / 8 ≡ X = omega arith in
          let ey : (8 * Y + t / 8) / 8 ≡ Y = omega arith in
          let fx : (8 * X + t % 8) % 8 ≡ t % 8 = omega arith in
          let fy : (8 * Y + t / 8) % 8 ≡ t / 8 = omega arith in
          let e : 8 * (t / 8) + t % 8 ≡ t = omega arith in
          let block = block_at samples w h X Y in
          let back = block_samples full quant (coefficients block quant) in
          (λ i. cond (inside w X (t % 8) (omega arith) i) (cond (inside h Y (t / 8) (omega arith) i) (error_at_place (ex i) (ey i) (fx i) (fy i)) 0) 0)
          ∙ (λ i. cond (ltb (t % 8) (min 8 (w - 8 * X))) (cond (ltb (t / 8) (min 8 (h - 8 * Y))) (squared (get_or block (e i) 0) (get_or back (e i) 0)) 0) 0)
