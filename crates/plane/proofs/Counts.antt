-- The counts of a plane (document 02, card 4): they are the sums over its blocks, and fit 32 bits. Assumes nothing.
use mathlib.Core.Path.{◌≡◌, refl, sym, ap, ap₂, ◌∙◌}
use mathlib.Core.List.{List}
use Prim.Native.Nat.{ℕ, zero, suc, ◌+◌, ◌*◌, ◌^◌, ◌≤◌, zero-le}
use native.Mathlib.Nat.{mul-le-mul}
use native.Mathlib.Numerals.{add-one}
use native.Mathlib.Omega.{arith}
use lib.ListN.{length}
use lib.IntN.{ℤ}
use Rattle.lists.specs.Tab.{in_turn}
use Rattle.forward.specs.Sum.{total}
use Rattle.clamping.specs.Counts.{raised_one, lowered_one, counted}
use Rattle.clamping.specs.declared.Rule.{Rule}
use Rattle.clamping.proofs.ByRule.{raised-most, lowered-most}
use Rattle.block.specs.Clamped.{block_raised, block_lowered, counts_of}
use Rattle.block.specs.declared.Clamped.{Clamped}
use Rattle.block.proofs.Counts.{counted-append, counted-most, length-unclamped}
use Rattle.plane.specs.Plane.{blocks}
use Rattle.plane.specs.Scale.{Scale, stored_block, fitted}
use Rattle.plane.specs.Counts.{block_numbers, plane_numbers, plane_raised, plane_lowered}
use Rattle.lists.proofs.Parts.{lent}
use Rattle.plane.proofs.Scales.{Cropping, lent-stored}

-- the counts of the first k blocks
module _ (one : Rule → ℕ) (f : ℕ → List ℤ) where
  pub turn_more : (k : ℕ) → counted one (in_turn (k + 1) f) ≡ counted one (in_turn k f) + counted one (f k)
  unfolding in_turn
  turn_more k = ap (λ (n : ℕ). counted one (in_turn n f)) (add-one k) ∙ counted-append one (in_turn k f) (f k)

  turn-sum : (k : ℕ) → counted one (in_turn k f) ≡ total k (λ i. counted one (f i))
  unfolding in_turn total counted
  turn-sum zero = refl
  turn-sum (suc k) = counted-append one (in_turn k f) (f k) ∙ ap (λ (n : ℕ). n + counted one (f k)) (turn-sum k)

  pub turn-most : ((r : Rule) → one r ≤ 1) → ((i : ℕ) → length (f i) ≤ 64) → (k : ℕ) → counted one (in_turn k f) ≤ 64 * k
  unfolding in_turn counted
  turn-most h l zero = zero-le
  turn-most h l (suc k) = omega (arith, counted-append one (in_turn k f) (f k), turn-most h l k, counted-most one 1 h (f k), l k)

module _ (s : Scale) (cs : List ℤ) (w h : ℕ) (quant : List ℕ) where
  -- "Plane counts are the sums over its blocks"
  pub raised-sum : plane_raised s cs w h quant ≡ total (blocks w * blocks h) (λ k. block_raised s.size (fitted s quant (stored_block cs k)))
  unfolding plane_raised plane_numbers block_numbers block_raised
  raised-sum = turn-sum raised_one _ (blocks w * blocks h)

  pub lowered-sum : plane_lowered s cs w h quant ≡ total (blocks w * blocks h) (λ k. block_lowered s.size (fitted s quant (stored_block cs k)))
  unfolding plane_lowered plane_numbers block_numbers block_lowered
  lowered-sum = turn-sum lowered_one _ (blocks w * blocks h)

-- a block has at most 64 numbers
pub few-numbers : {s : Scale} → Cropping s → (quant : List ℕ) (cs : List ℤ) → length (block_numbers s quant cs) ≤ 64
unfolding block_numbers
few-numbers {s} cr quant cs = omega (arith, length-unclamped s.size (fitted s quant cs), mul-le-mul cr.side-most cr.side-most)

module _ {s : Scale} (cr : Cropping s) (quant : List ℕ) (cs : List ℤ) where
  pub numbers-few : (k : ℕ) → length (block_numbers s quant (stored_block cs k)) ≤ 64
  numbers-few k = few-numbers cr quant (stored_block cs k)

  -- "They fit": 512 × 512 blocks at most
  few : (n : ℕ) → n ≤ 4096 → blocks n ≤ 512
  unfolding blocks
  few n l = omega arith

  pub raised-fits : (w h : ℕ) → w ≤ 4096 → h ≤ 4096 → plane_raised s cs w h quant ≤ 2 ^ 24
  unfolding plane_raised plane_numbers
  raised-fits w h a b = omega (arith, turn-most raised_one (λ k. block_numbers s quant (stored_block cs k)) raised-most numbers-few (blocks w * blocks h), mul-le-mul (few w a) (few h b))

  pub lowered-fits : (w h : ℕ) → w ≤ 4096 → h ≤ 4096 → plane_lowered s cs w h quant ≤ 2 ^ 24
  unfolding plane_lowered plane_numbers
  lowered-fits w h a b = omega (arith, turn-most lowered_one (λ k. block_numbers s quant (stored_block cs k)) lowered-most numbers-few (blocks w * blocks h), mul-le-mul (few w a) (few h b))

-- ---- the loop over the blocks

-- the counts of the first k blocks
pub record Sums (s : Scale) (cs : List ℤ) (quant : List ℕ) (k raised lowered : ℕ) : Type 0 where
  pub up : raised ≡ counted raised_one (in_turn k (λ i. block_numbers s quant (stored_block cs i)))
  pub down : lowered ≡ counted lowered_one (in_turn k (λ i. block_numbers s quant (stored_block cs i)))

pub sums_none : (s : Scale) (cs : List ℤ) (quant : List ℕ) → Sums s cs quant 0 0 0
unfolding in_turn counted
sums_none s cs quant = record { up = refl; down = refl }

module _ {s : Scale} {cs : List ℤ} {quant : List ℕ} {k raised lowered : ℕ} where
  pub sums_same : {k' : ℕ} → Sums s cs quant k raised lowered → k ≡ k' → Sums s cs quant k' raised lowered
  sums_same c e = rw (← e) c

  -- block k is decoded and counted
  pub sums-more : {r : Clamped} → Sums s cs quant k raised lowered → 64 * k + 64 ≤ length cs → r ≡ counts_of (block_numbers s quant (lent (64 * k) 64 cs)) → Sums s cs quant (k + 1) (raised + r.raised) (lowered + r.lowered)
  unfolding counts_of
  sums-more c b e =
      let f : ℕ → List ℤ = λ i. block_numbers s quant (stored_block cs i) in
      let here = e ∙ ap (λ (xs : List ℤ). counts_of (block_numbers s quant xs)) (lent-stored cs k b) in
      record {
        up = ap₂ ◌+◌ c.up (ap (λ (r : Clamped). r.raised) here) ∙ sym (turn_more raised_one f k);
        down = ap₂ ◌+◌ c.down (ap (λ (r : Clamped). r.lowered) here) ∙ sym (turn_more lowered_one f k);
      }

  pub sums-few : Cropping s → Sums s cs quant k raised lowered → (raised ≤ 64 * k) × (lowered ≤ 64 * k)
  sums-few cr c =
      (rw c.up (turn-most raised_one _ raised-most (numbers-few cr quant cs) k), rw c.down (turn-most lowered_one _ lowered-most (numbers-few cr quant cs) k))

  pub sums-all : (w h : ℕ) → Sums s cs quant k raised lowered → k ≡ blocks w * blocks h → record { raised = raised; lowered = lowered } ≡ counts_of (plane_numbers s cs w h quant)
  unfolding counts_of plane_numbers
  sums-all w h c e =
      let f : ℕ → List ℤ = λ i. block_numbers s quant (stored_block cs i) in
      λ i. record { raised = (c.up ∙ ap (λ (n : ℕ). counted raised_one (in_turn n f)) e) i; lowered = (c.down ∙ ap (λ (n : ℕ). counted lowered_one (in_turn n f)) e) i }
