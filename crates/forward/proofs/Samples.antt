-- The facts of the canonical entries, over the limit and the centre of the samples, and over the width of the coefficients.
-- Assumes nothing.
use mathlib.Core.Path.{◌≡◌, refl, sym, ap, subst, ◌∙◌}
use mathlib.Core.Bool.{Bool, true}
use mathlib.Core.List.{List, [], ◌∷◌, ◌++◌}
use Prim.Native.Nat.{ℕ, ◌+◌, ◌*◌, ◌/◌, ◌%◌, ◌^◌, ◌<◌, ◌≤◌, zero-le}
use native.Mathlib.Omega.{arith}
use borrow.Author.Tests.{le-leb}
use lib.Dec.{T, leb, leb→le}
use lib.ListN.{length, get_or}
use lib.IntN.{ℤ, pos, nat_abs, ◌-ℤ◌, ◌*ℤ◌}
use mir.Syntax.{Width}
use mir.Val.{SFits, hbits}
use Rattle.integers.proofs.Difference.{dif-eq, differences, distance}
use Rattle.integers.proofs.Bound.{small-fits}
use Rattle.lists.specs.Every.{Every}
use Rattle.lists.proofs.Every.{every-place}
use Rattle.lists.proofs.Tab.{length-tab, get_d-tab, get_d-every, tab-ext, map-get_d}
use Rattle.lists.proofs.Below.{below_at, below_holds}
use Rattle.basis.specs.Basis.{basis}
use Rattle.quantize.specs.Quantize.{coefficient}
use Rattle.quantize.proofs.Size.{coefficient-size}
use Rattle.refusals.specs.Refusals.{◌unless◌, block_tests, status}
use Rattle.forward.specs.Forward.{centred, scaled_sum, centred_block}
use Rattle.forward.specs.Canonical.{Bytes, canonical_at, coefficients_at, coefficients, coefficients12bit, up_to, sample_tests, tests12bit, raised}
use Rattle.forward.proofs.Sum.{sum-ext}
use Rattle.forward.proofs.Folding.{sum-centred}
use Rattle.forward.proofs.Scaled.{scaled-size}

-- ---- the test of the samples

pub within : (limit : ℕ) (block : List ℕ) → up_to limit block ≡ true → (i : ℕ) → i < 64 → get_or block i 0 ≤ limit
unfolding up_to
within limit block t i h = leb→le (get_or block i 0) limit (below_at 64 (λ j. leb (get_or block j 0) limit) (subst T (sym t) tt) i h)

within-passes : (limit : ℕ) (block : List ℕ) → ((i : ℕ) → i < 64 → get_or block i 0 ≤ limit) → up_to limit block ≡ true
unfolding up_to
within-passes limit block h = below_holds 64 _ (λ i b. le-leb (get_or block i 0) limit (h i b))

-- a block of samples up to the limit is refused by its lengths alone
pub none_above : {A : Type 0} (limit : ℕ) (block quant : List ℕ) (out : List A) → ((i : ℕ) → i < 64 → get_or block i 0 ≤ limit) →
    status (sample_tests limit block quant out) ≡ status (block_tests block quant out)
unfolding status
none_above limit block quant out h = ap (λ (t : Bool). status (block_tests block quant out ++ (12 unless t ∷ []))) (within-passes limit block h)

-- 8 bits: the entry that has no sample to refuse
pub eight-bits : {A : Type 0} (block quant : List ℕ) (out : List A) → Bytes block → status (sample_tests 255 block quant out) ≡ status (block_tests block quant out)
eight-bits block quant out b = none_above 255 block quant out (λ i h. b.most i)

-- ---- how large samples less the centre, sums and coefficients are

module _ (limit centre : ℕ) (level : limit ≤ 2 * centre) (block : List ℕ) (h : (i : ℕ) → i < 64 → get_or block i 0 ≤ limit) where
  pub centred-small : (i : ℕ) → nat_abs (get_or (centred_block centre block) i (pos 0)) ≤ centre
  unfolding centred_block
  centred-small =
      get_d-every (λ (z : ℤ). nat_abs z ≤ centre) 64 _ (pos 0) zero-le (λ i b. omega (arith, h i b, distance (get_or block i 0) centre))

  -- 2^42 for 8 bits, 2^46 for 12
  pub sum-small : (n : ℕ) → n < 64 → nat_abs (scaled_sum centre block n) ≤ centre * 2 ^ 35
  sum-small n b = subst (λ (z : ℤ). nat_abs z ≤ centre * 2 ^ 35) (sum-centred centre block n) (scaled-size (centred_block centre block) centre centred-small n b)

  -- 2^10 for 8 bits, 2^14 for 12, under any table
  pub coefficients-small : (quant : List ℕ) (n : ℕ) → nat_abs (get_or (coefficients_at centre block quant) n (pos 0)) ≤ 8 * centre
  unfolding coefficients_at canonical_at
  coefficients-small quant =
      get_d-every (λ (z : ℤ). nat_abs z ≤ 8 * centre) 64 _ (pos 0) zero-le (λ n b. coefficient-size (scaled_sum centre block n) (get_or quant n 0) (8 * centre) (omega (arith, sum-small n b)))

  -- so they fit any width of that many bits: 16 for both
  pub coefficients-fit : (w : Width) → 8 * centre < 2 ^ hbits w → (quant : List ℕ) → Every (SFits w) (coefficients_at centre block quant)
  coefficients-fit w wide quant = every-place (pos 0) _ (λ n. small-fits w _ (omega (arith, coefficients-small quant n)))

-- ---- "An 8-bit block with 1920 added to each sample, under its table widened, gives its 8-bit coefficients"

module _ (k centre : ℕ) (block : List ℕ) (long : length block ≡ 64) where
  raised_at : (i : ℕ) → i < 64 → get_or (raised k block) i 0 ≡ get_or block i 0 + k
  unfolding raised
  raised_at i h = ap (λ (l : List ℕ). get_or l i 0) (sym (map-get_d (λ (s : ℕ). s + k) 0 block 64 long)) ∙ get_d-tab 64 _ 0 i h

  raised-length : length (raised k block) ≡ length block
  unfolding raised
  raised-length = ap length (sym (map-get_d (λ (s : ℕ). s + k) 0 block 64 long)) ∙ length-tab 64 _ ∙ sym long

  -- samples and centre moved alike
  raised-sum : (n : ℕ) → scaled_sum (centre + k) (raised k block) n ≡ scaled_sum centre block n
  unfolding scaled_sum centred
  raised-sum n =
      sum-ext 64 _ _ (λ i h.
      ap (λ (z : ℤ). z *ℤ basis n (i % 8) (i / 8)) (ap (λ (s : ℕ). pos s -ℤ pos (centre + k)) (raised_at (8 * (i / 8) + i % 8) (omega arith)) ∙ cancel (get_or block (8 * (i / 8) + i % 8) 0)))
    where
      cancel : (s : ℕ) → pos (s + k) -ℤ pos (centre + k) ≡ pos s -ℤ pos centre
      cancel s = simp differences (dif-eq _ _ _ _ (omega arith))

  pub raised-coefficients : (quant : List ℕ) → coefficients_at (centre + k) (raised k block) quant ≡ coefficients_at centre block quant
  unfolding coefficients_at canonical_at
  raised-coefficients quant = tab-ext 64 _ _ (λ n b. ap (λ (S : ℤ). coefficient S (get_or quant n 0)) (raised-sum n))

  -- and what is refused, where the raised samples are up to the limit
  pub raised-status : {A : Type 0} (low limit : ℕ) → low + k ≤ limit → ((i : ℕ) → get_or block i 0 ≤ low) → (quant : List ℕ) (out : List A) →
      status (sample_tests limit (raised k block) quant out) ≡ status (block_tests block quant out)
  unfolding status
  raised-status low limit fits h quant out =
      none_above limit (raised k block) quant out (λ i b. omega (arith, h i, raised_at i b)) ∙ simp raised-length refl

-- the 12-bit call on the raised block answers and writes what the 8-bit call does on the block
pub raised-12bit : {A : Type 0} (block quant : List ℕ) (out : List A) → Bytes block →
    (status (tests12bit (raised 1920 block) quant out) ≡ status (block_tests block quant out)) × (coefficients12bit (raised 1920 block) quant ≡ coefficients block quant)
raised-12bit block quant out b =
    (raised-status 1920 128 block b.long 255 4095 (omega arith) b.most quant out, raised-coefficients 1920 128 block b.long quant)
