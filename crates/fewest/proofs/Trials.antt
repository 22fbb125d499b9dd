-- The trial of a block of a plane, of its sums; and how large errors and counts are: no sum of them overflows for a plane within the sizes.
-- Assumes nothing.
use mathlib.Core.Path.{◌≡◌, ap, ◌∙◌}
use mathlib.Core.Bool.{Bool, true, false, cond}
use mathlib.Core.List.{List}
use Prim.Native.Nat.{ℕ, ◌-◌, ◌*◌, ◌/◌, ◌%◌, ◌≤◌, min, zero-le}
use native.Mathlib.Nat.{le_trans, le_of_eq, mul-le-mul}
use native.Mathlib.Omega.{arith}
use lib.Dec.{ltb}
use lib.ListN.{get_or}
use lib.IntN.{ℤ, pos, negsuc, nat_abs, ◌+ℤ◌, ◌-ℤ◌}
use mir.Syntax.{w32}
use Rattle.integers.specs.Wrap.{wrap}
use Rattle.integers.proofs.Difference.{distance}
use Rattle.lists.specs.Tab.{tab}
use Rattle.lists.specs.Grid.{grid}
use Rattle.lists.proofs.Tab.{get_d-tab, get_d-every, tab-ext}
use Rattle.quantize.specs.Quantize.{coefficient}
use Rattle.clamping.specs.Clamping.{clamp_to, sample_u8}
use Rattle.passes.specs.Passes.{Size, eight}
use Rattle.block.specs.Block.{block, samples, row_samples}
use Rattle.forward.specs.Sum.{total}
use Rattle.forward.specs.Forward.{scaled_sum}
use Rattle.forward.specs.Canonical.{canonical_at, coefficients_at, coefficients}
use Rattle.forward.proofs.Sum.{total-le, total-const}
use Rattle.plane.specs.Plane.{blocks, sample_at, block_at, block_of}
use Rattle.plane.specs.Scale.{block_samples}
use Rattle.percent.specs.Nonzeros.{nonzeros}
use Rattle.percent.proofs.Nonzeros.{nonzeros-most, plane-nonzeros-sum}
use Rattle.fewest.specs.Fewest.{squared, plane_error, plane_nonzeros}
use Rattle.fewest.specs.Blocks.{coded_sums, error_term, error_within, block_error, block_trial, error_of, count_of}
use Rattle.fewest.proofs.Tiles.{error-blocks}

-- ---- of the sums of a block come its coefficients

pub coded-sums : (block quant : List ℕ) → coded_sums (tab 64 (scaled_sum 128 block)) quant ≡ coefficients block quant
unfolding coded_sums coefficients_at canonical_at
coded-sums block quant = tab-ext 64 _ _ (λ n b. ap (λ (S : ℤ). coefficient S (get_or quant n 0)) (get_d-tab 64 (scaled_sum 128 block) (pos 0) n b))

-- block k, as the code finds it
module _ (plane : List ℕ) (w h k : ℕ) {across : ℕ} {block : List ℕ} {sums : List ℤ} (ea : across ≡ blocks w) (eb : block ≡ block_at plane w h (k % across) (k / across))
    (es : sums ≡ tab 64 (scaled_sum 128 block)) (quant : List ℕ) where
  is_block : block ≡ block_of plane w h k
  unfolding block_of
  is_block = eb ∙ (λ i. block_at plane w h (k % ea i) (k / ea i))

  coded : coded_sums sums quant ≡ coefficients (block_of plane w h k) quant
  coded = ap (λ (s : List ℤ). coded_sums s quant) es ∙ coded-sums block quant ∙ ap (λ (b : List ℕ). coefficients b quant) is_block

  pub count-is : nonzeros (coded_sums sums quant) ≡ count_of plane w h quant k
  unfolding count_of
  count-is = ap nonzeros coded

  pub trial-count : (columns rows : ℕ) → (block_trial columns rows block sums quant).count ≡ count_of plane w h quant k
  unfolding block_trial
  trial-count columns rows = count-is

  pub trial-error : (columns rows : ℕ) → columns ≡ min 8 (w - 8 * (k % across)) → rows ≡ min 8 (h - 8 * (k / across)) → (block_trial columns rows block sums quant).error ≡ error_of plane w h quant k
  unfolding block_trial error_of
  trial-error columns rows ec er =
      let fc : columns ≡ min 8 (w - 8 * (k % blocks w)) = ec ∙ ap (λ (a : ℕ). min 8 (w - 8 * (k % a))) ea in
      let fr : rows ≡ min 8 (h - 8 * (k / blocks w)) = er ∙ ap (λ (a : ℕ). min 8 (h - 8 * (k / a))) ea in
      λ i. block_error (fc i) (fr i) (is_block i) (coded i) quant

-- ---- how large they are

sample-most : (v : ℤ) → sample_u8 v ≤ 255
unfolding sample_u8
sample-most v = clamped (wrap w32 (v +ℤ pos 128))
  where
    clamped : (z : ℤ) → clamp_to 255 z ≤ 255
    clamped (pos n) = unfold clamp_to in omega arith
    clamped (negsuc n) = unfold clamp_to in omega arith

block-most : (z : Size) (xs : List ℤ) (i : ℕ) → get_or (block z xs) i 0 ≤ 255
unfolding block samples row_samples
block-most z xs = get_d-every (λ n. n ≤ 255) _ _ 0 zero-le (λ i b. sample-most _)

squared-most : (a b : ℕ) → a ≤ 255 → b ≤ 255 → squared a b ≤ 65025
unfolding squared
squared-most a b ha hb = let d : nat_abs (pos a -ℤ pos b) ≤ 255 = omega (arith, distance a b) in mul-le-mul d d

sum-most : (n : ℕ) (f : ℕ → ℕ) (m : ℕ) → ((i : ℕ) → f i ≤ m) → total n f ≤ n * m
sum-most n f m h = le_trans (total-le n f (λ i. m) (λ i b. h i)) (le_of_eq (total-const n m))

-- a plane of bytes
module _ (plane : List ℕ) (bytes : (i : ℕ) → get_or plane i 0 ≤ 255) (w h : ℕ) (quant : List ℕ) where
  sample-byte : (k i : ℕ) → get_or (block_of plane w h k) i 0 ≤ 255
  unfolding block_of block_at grid sample_at
  sample-byte k = get_d-every (λ n. n ≤ 255) 64 _ 0 zero-le (λ i b. bytes _)

  pub error-of-most : (k : ℕ) → error_of plane w h quant k ≤ 64 * 65025
  unfolding error_of block_error error_within error_term block_samples
  error-of-most k = sum-most 64 _ 65025 (λ i. within (ltb (i % 8) _) (ltb (i / 8) _) (squared-most _ _ (sample-byte k i) (block-most eight _ i)))
    where
      within : (s t : Bool) {v : ℕ} → v ≤ 65025 → cond s (cond t v 0) 0 ≤ 65025
      within true true l = l
      within true false l = zero-le
      within false t l = zero-le

  pub errors-most : (k : ℕ) → total k (error_of plane w h quant) ≤ k * (64 * 65025)
  errors-most k = sum-most k _ (64 * 65025) error-of-most

  -- the squared error of a plane: below 2^40
  pub plane-error-most : plane_error plane w h quant ≤ blocks w * blocks h * (64 * 65025)
  plane-error-most = rw (error-blocks plane w h quant) (errors-most (blocks w * blocks h))

module _ (plane : List ℕ) (w h : ℕ) (quant : List ℕ) where
  pub count-of-most : (k : ℕ) → count_of plane w h quant k ≤ 64
  unfolding count_of coefficients_at
  count-of-most k = nonzeros-most 64 _

  pub counts-most : (k : ℕ) → total k (count_of plane w h quant) ≤ k * 64
  counts-most k = sum-most k _ 64 count-of-most

  pub count-blocks : plane_nonzeros plane w h quant ≡ total (blocks w * blocks h) (count_of plane w h quant)
  unfolding plane_nonzeros count_of
  count-blocks = plane-nonzeros-sum plane w h quant
