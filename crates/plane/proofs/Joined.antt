-- Document 02, card 13: what a joined plane shows, what its clamp counts, and that joining what was coded is coding what was joined.
-- Assumes nothing.
use mathlib.Core.Path.{◌≡◌, sym, ap, ap₂, ◌∙◌}
use mathlib.Core.List.{List}
use Prim.Native.Nat.{ℕ, ◌+◌, ◌-◌, ◌*◌, ◌/◌, ◌%◌, ◌^◌, ◌<◌, min}
use native.Mathlib.Nat.{mul-add-div, mul-add-mod_self_left}
use native.Mathlib.Omega.{arith}
use lib.Dec.{T, eqb→eq}
use lib.ListN.{get_or}
use lib.IntN.{ℤ, pos, nat_abs, ◌*ℤ◌}
use Rattle.lists.specs.Tab.{in_turn}
use Rattle.lists.specs.Grid.{grid, at, beside, tiled}
use Rattle.lists.proofs.Tab.{tab-ext}
use Rattle.lists.proofs.Below.{below_at}
use Rattle.lists.proofs.Grid.{grid-ext, grid-beside, grid-regroup, beside-left, beside-right, column-of, row_of}
use Rattle.quantize.specs.Quantize.{divisor_of, rounded, with_sign, coefficient}
use Rattle.forward.specs.Forward.{scaled_sum}
use Rattle.forward.specs.Canonical.{canonical, canonical_at}
use Rattle.forward.specs.Sum.{total}
use Rattle.forward.proofs.Sum.{total_ext, total-rows, total-beside}
use Rattle.clamping.specs.Counts.{raised_one, lowered_one, counted}
use Rattle.block.specs.Block.{block}
use Rattle.block.specs.Clamped.{unclamped, block_raised, block_lowered}
use Rattle.stored_blocks.specs.Dequantize.{product}
use Rattle.plane.specs.Plane.{blocks, sample_at, block_at, block_of, plane_coefficients}
use Rattle.plane.specs.Scale.{Scale, cropped, stored_block, fitted, block_samples, plane_samples}
use Rattle.plane.specs.Counts.{block_numbers, plane_numbers, plane_raised, plane_lowered}
use Rattle.plane.specs.Join.{joined, same_divisors, ShowsBoth}
use Rattle.plane.proofs.Scales.{Cropping}
use Rattle.plane.proofs.Counts.{raised-sum, lowered-sum}

-- "left width a multiple of 8": the blocks of the joined plane
pub joined-blocks : (wl wr : ℕ) → wl % 8 ≡ 0 → blocks (wl + wr) ≡ blocks wl + blocks wr
unfolding blocks
joined-blocks wl wr e = omega arith

whole-blocks : (wl : ℕ) → wl % 8 ≡ 0 → wl ≡ 8 * blocks wl
unfolding blocks
whole-blocks wl e = omega arith

-- ---- blocks: "the left's and then the right's in each row of blocks"

module _ (wl wr h : ℕ) (left right : List ℤ) where
  abbrev across : ℕ
  across = blocks wl + blocks wr

  pub joined-left : {x y : ℕ} → x < blocks wl → y < blocks h → stored_block (joined wl wr h left right) (across * y + x) ≡ stored_block left (blocks wl * y + x)
  unfolding stored_block joined
  joined-left {x} {y} a b =
      tab-ext 64 _ _ (λ n c.
      ap (λ (k : ℕ). get_or (beside (pos 0) (64 * blocks wl) (64 * blocks wr) (blocks h) left right) k (pos 0)) (omega arith)
      ∙ beside-left (pos 0) (64 * blocks wl) (64 * blocks wr) (blocks h) left right {x = 64 * x + n} {y = y} (omega arith) b ∙ ap (λ (k : ℕ). get_or left k (pos 0)) (omega arith))

  pub joined-right : {x y : ℕ} → x < blocks wr → y < blocks h → stored_block (joined wl wr h left right) (across * y + (blocks wl + x)) ≡ stored_block right (blocks wr * y + x)
  unfolding stored_block joined
  joined-right {x} {y} a b =
      tab-ext 64 _ _ (λ n c.
      ap (λ (k : ℕ). get_or (beside (pos 0) (64 * blocks wl) (64 * blocks wr) (blocks h) left right) k (pos 0)) (omega arith)
      ∙ beside-right (pos 0) (64 * blocks wl) (64 * blocks wr) (blocks h) left right {x = 64 * x + n} {y = y} (omega arith) b ∙ ap (λ (k : ℕ). get_or right k (pos 0)) (omega arith))

  -- what is summed over the blocks of both
  joined-total : wl % 8 ≡ 0 → (count : List ℤ → ℕ) →
      total (blocks (wl + wr) * blocks h) (λ k. count (stored_block (joined wl wr h left right) k)) ≡ total (blocks wl * blocks h) (λ k. count (stored_block left k)) + total (blocks wr * blocks h) (λ k. count (stored_block right k))
  joined-total e count =
      ap (λ (n : ℕ). total (n * blocks h) (λ k. count (stored_block (joined wl wr h left right) k))) (joined-blocks wl wr e)
      ∙ total-beside (λ k. count (stored_block (joined wl wr h left right) k)) (blocks wl) (blocks wr) (blocks h)
      ∙ ap₂ ◌+◌
      (total_ext (blocks h) _ _ (λ y b. total_ext (blocks wl) _ _ (λ x a. ap count (joined-left a b))) ∙ sym (total-rows (λ k. count (stored_block left k)) (blocks wl) (blocks h)))
      (total_ext (blocks h) _ _ (λ y b. total_ext (blocks wr) _ _ (λ x a. ap count (joined-right a b))) ∙ sym (total-rows (λ k. count (stored_block right k)) (blocks wr) (blocks h)))

  module _ (e : wl % 8 ≡ 0) (s : Scale) (quant : List ℕ) where
    -- "and the clamp counts add up"
    pub joined-raised : plane_raised s (joined wl wr h left right) (wl + wr) h quant ≡ plane_raised s left wl h quant + plane_raised s right wr h quant
    joined-raised =
        raised-sum s (joined wl wr h left right) (wl + wr) h quant ∙ joined-total e (λ cs. block_raised s.size (fitted s quant cs))
        ∙ ap₂ ◌+◌ (sym (raised-sum s left wl h quant)) (sym (raised-sum s right wr h quant))

    pub joined-lowered : plane_lowered s (joined wl wr h left right) (wl + wr) h quant ≡ plane_lowered s left wl h quant + plane_lowered s right wr h quant
    joined-lowered =
        lowered-sum s (joined wl wr h left right) (wl + wr) h quant ∙ joined-total e (λ cs. block_lowered s.size (fitted s quant cs))
        ∙ ap₂ ◌+◌ (sym (lowered-sum s left wl h quant)) (sym (lowered-sum s right wr h quant))

  module _ (e : wl % 8 ≡ 0) (s : Scale) (c : Cropping s) (quant : List ℕ) where
    abbrev m : ℕ
    m = s.size.side

    abbrev of : List ℤ → ℕ → List ℕ
    of cs k = block_samples s quant (stored_block cs k)

    joined-shown : cropped s (wl + wr) ≡ cropped s wl + cropped s wr
    joined-shown =
        let w = whole-blocks wl e in
        ap (λ (k : ℕ). cropped s (k + wr)) w ∙ c.wide (blocks wl) wr ∙ ap (λ (k : ℕ). k + cropped s wr) (sym (c.whole (blocks wl)) ∙ ap (cropped s) (sym w))

    -- "Decoding the joined plane shows the left picture beside the right one, sample by sample"
    pub joined-samples : plane_samples s (joined wl wr h left right) (wl + wr) h quant ≡ beside 0 (cropped s wl) (cropped s wr) (cropped s h) (plane_samples s left wl h quant) (plane_samples s right wr h quant)
    unfolding plane_samples tiled
    joined-samples =
        (λ i. grid (joined-shown i) (cropped s h) (tiled 0 m (joined-blocks wl wr e i) (of (joined wl wr h left right))))
        ∙ grid-beside 0 (cropped s wl) (cropped s wr) (cropped s h) (tiled 0 m across (of (joined wl wr h left right)))
        ∙ ap₂ (beside 0 (cropped s wl) (cropped s wr) (cropped s h))
        (grid-ext (cropped s wl) (cropped s h) _ _ (λ x y a b. ap (λ (l : List ℤ). at 0 m (block_samples s quant l) (x % m) (y % m)) (joined-left (c.inside wl x a) (c.inside h y b))))
        (grid-ext (cropped s wr) (cropped s h) _ _ (λ x y a b.
        let l : cropped s wl ≡ m * blocks wl = ap (cropped s) (whole-blocks wl e) ∙ c.whole (blocks wl) in
        let dx : (cropped s wl + x) / m ≡ blocks wl + x / m = ap (λ (k : ℕ). (k + x) / m) l ∙ mul-add-div c.side-some (blocks wl) x in
        let mx : (cropped s wl + x) % m ≡ x % m = ap (λ (k : ℕ). (k + x) % m) l ∙ mul-add-mod_self_left m (blocks wl) x in
        (λ i. at 0 m (of (joined wl wr h left right) (across * (y / m) + dx i)) (mx i) (y % m)) ∙ ap (λ (l : List ℤ). at 0 m (block_samples s quant l) (x % m) (y % m)) (joined-right (c.inside wr x a) (c.inside h y b))))

-- ---- coding what stands side by side

-- the plane's coefficients row of blocks by row of blocks
coded-rows : (samples : List ℕ) (w h : ℕ) (quant : List ℕ) → plane_coefficients samples w h quant ≡ grid (64 * blocks w) (blocks h) (λ i y. canonical (block_at samples w h (i / 64) y) quant (i % 64))
unfolding plane_coefficients block_of
coded-rows samples w h quant =
    grid-regroup 64 (blocks w) (blocks h) _ (omega arith)
    ∙ grid-ext (64 * blocks w) (blocks h) _ _ (λ i y a b. let in_row : i / 64 < blocks w = omega arith in λ j. canonical (block_at samples w h (column-of (blocks w) in_row y j) (row_of (blocks w) in_row y j)) quant (i % 64))

-- a column or row of a plane of n is itself, and none lies past the last
inner : (n : ℕ) {k : ℕ} → k < n → min k (n - 1) ≡ k
inner n l = omega arith

last-in : (n k : ℕ) {x : ℕ} → x < blocks n → min k (n - 1) < n
unfolding blocks
last-in n k l = omega arith

whole_in : (wl : ℕ) → wl % 8 ≡ 0 → {x i : ℕ} → x < blocks wl → i < 8 → 8 * x + i < wl
unfolding blocks
whole_in wl e a b = omega arith

past-whole : (wl wr : ℕ) → wl % 8 ≡ 0 → {x : ℕ} (i : ℕ) → x < blocks wr → min (8 * (blocks wl + x) + i) (wl + wr - 1) ≡ wl + min (8 * x + i) (wr - 1)
unfolding blocks
past-whole wl wr e i a = omega arith

module _ (wl wr h : ℕ) (left right : List ℕ) (e : wl % 8 ≡ 0) where
  abbrev both : List ℕ
  both = beside 0 wl wr h left right

  side_left : {x y : ℕ} → x < blocks wl → y < blocks h → block_at both (wl + wr) h x y ≡ block_at left wl h x y
  unfolding block_at sample_at
  side_left {x} {y} a b =
      grid-ext 8 8 _ _ (λ i j p q.
      let l = whole_in wl e a p in
      ap (λ (k : ℕ). at 0 (wl + wr) both k (min (8 * y + j) (h - 1))) (inner (wl + wr) (omega (arith, l))) ∙ beside-left 0 wl wr h left right l (last-in h (8 * y + j) b)
      ∙ ap (λ (k : ℕ). at 0 wl left k (min (8 * y + j) (h - 1))) (sym (inner wl l)))

  side_right : {x y : ℕ} → x < blocks wr → y < blocks h → block_at both (wl + wr) h (blocks wl + x) y ≡ block_at right wr h x y
  unfolding block_at sample_at
  side_right {x} {y} a b =
      grid-ext 8 8 _ _ (λ i j p q.
      ap (λ (k : ℕ). at 0 (wl + wr) both k (min (8 * y + j) (h - 1))) (past-whole wl wr e i a) ∙ beside-right 0 wl wr h left right (last-in wr (8 * x + i) a) (last-in h (8 * y + j) b))

  -- joining the coefficients of two pictures is coding the two side by side
  coded-beside : (quant : List ℕ) → joined wl wr h (plane_coefficients left wl h quant) (plane_coefficients right wr h quant) ≡ plane_coefficients both (wl + wr) h quant
  unfolding joined
  coded-beside quant =
      sym (
      coded-rows both (wl + wr) h quant
      ∙ ap (λ (n : ℕ). grid n (blocks h) (λ i y. canonical (block_at both (wl + wr) h (i / 64) y) quant (i % 64))) (ap (λ (k : ℕ). 64 * k) (joined-blocks wl wr e) ∙ omega arith)
      ∙ grid-beside (pos 0) (64 * blocks wl) (64 * blocks wr) (blocks h) (λ i y. canonical (block_at both (wl + wr) h (i / 64) y) quant (i % 64))
      ∙ ap₂ (beside (pos 0) (64 * blocks wl) (64 * blocks wr) (blocks h))
      (grid-ext (64 * blocks wl) (blocks h) _ _ (λ i y a b. ap (λ (l : List ℕ). canonical l quant (i % 64)) (side_left (omega arith) b)) ∙ sym (coded-rows left wl h quant))
      (grid-ext (64 * blocks wr) (blocks h) _ _ (λ i y a b.
      let d : (64 * blocks wl + i) / 64 ≡ blocks wl + i / 64 = omega arith in
      let r : (64 * blocks wl + i) % 64 ≡ i % 64 = omega arith in
      (λ j. canonical (block_at both (wl + wr) h (d j) y) quant (r j)) ∙ ap (λ (l : List ℕ). canonical l quant (i % 64)) (side_right (omega arith) b)) ∙ sym (coded-rows right wr h quant)))

-- ---- "divisors differ (a quantizer 0 counts as 1)": tables with the same divisors code and decode alike

module _ (q r : List ℕ) (same : T (same_divisors q r)) where
  divisors : (n : ℕ) → n < 64 → divisor_of (get_or q n 0) ≡ divisor_of (get_or r n 0)
  unfolding same_divisors
  divisors n h = eqb→eq _ _ (below_at 64 _ same n h)

  pub same_coded : (samples : List ℕ) (w h : ℕ) → plane_coefficients samples w h q ≡ plane_coefficients samples w h r
  unfolding plane_coefficients canonical_at coefficient
  same_coded samples w h =
      grid-ext 64 (blocks w * blocks h) _ _ (λ n k a b. let S = scaled_sum 128 (block_of samples w h k) n in ap (λ (d : ℕ). with_sign S (rounded (nat_abs S) (d * 2 ^ 32))) (divisors n a))

  same-fitted : (s : Scale) (cs : List ℤ) → fitted s q cs ≡ fitted s r cs
  unfolding fitted product
  same-fitted s cs = tab-ext 64 _ _ (λ n a. ap (λ (d : ℕ). s.fit (get_or cs n (pos 0) *ℤ pos d)) (divisors n a))

  pub same-decoded : (s : Scale) (cs : List ℤ) (w h : ℕ) → plane_samples s cs w h q ≡ plane_samples s cs w h r
  unfolding plane_samples block_samples
  same-decoded s cs w h = λ i. grid (cropped s w) (cropped s h) (tiled 0 s.size.side (blocks w) (λ k. block s.size (same-fitted s (stored_block cs k) i)))

  -- the numbers before the clamp, so both counts
  same_numbers : (s : Scale) (cs : List ℤ) (w h : ℕ) → plane_numbers s cs w h q ≡ plane_numbers s cs w h r
  unfolding plane_numbers block_numbers
  same_numbers s cs w h = λ i. in_turn (blocks w * blocks h) (λ k. unclamped s.size (same-fitted s (stored_block cs k) i))

  pub same-raised : (s : Scale) (cs : List ℤ) (w h : ℕ) → plane_raised s cs w h q ≡ plane_raised s cs w h r
  unfolding plane_raised
  same-raised s cs w h = ap (counted raised_one) (same_numbers s cs w h)

  pub same-lowered : (s : Scale) (cs : List ℤ) (w h : ℕ) → plane_lowered s cs w h q ≡ plane_lowered s cs w h r
  unfolding plane_lowered
  same-lowered s cs w h = ap (counted lowered_one) (same_numbers s cs w h)

  -- ---- both strips under tables of their own, a left width that is a multiple of 8, and one height

  module _ (wl wr h : ℕ) (e : wl % 8 ≡ 0) where
    pub joined-shows : (left right : List ℤ) (s : Scale) → Cropping s → ShowsBoth s (joined wl wr h left right) left wl h q right wr r
    joined-shows left right s c =
        record {
          samples = joined-samples wl wr h left right e s c q ∙ ap (beside 0 (cropped s wl) (cropped s wr) (cropped s h) (plane_samples s left wl h q)) (same-decoded s right wr h);
          raised = joined-raised wl wr h left right e s q ∙ ap (λ (n : ℕ). plane_raised s left wl h q + n) (same-raised s right wr h);
          lowered = joined-lowered wl wr h left right e s q ∙ ap (λ (n : ℕ). plane_lowered s left wl h q + n) (same-lowered s right wr h);
        }

    -- the coefficients of two pictures, joined, are those of the two side by side; nothing is asked of the samples
    pub joined-coded : (left right : List ℕ) → joined wl wr h (plane_coefficients left wl h q) (plane_coefficients right wr h r) ≡ plane_coefficients (beside 0 wl wr h left right) (wl + wr) h q
    joined-coded left right = ap (joined wl wr h (plane_coefficients left wl h q)) (sym (same_coded right wr h)) ∙ coded-beside wl wr h left right e q
