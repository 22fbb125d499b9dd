-- Document 02, card 6, of the coefficients: a larger p "never turns a zero coefficient of a block into a nonzero one". Assumes nothing.
use mathlib.Core.Path.{◌≡◌, sym, ◌∙◌}
use mathlib.Core.List.{List}
use Prim.Native.Nat.{ℕ, ◌*◌, ◌/◌, ◌%◌, ◌≤◌, ◌<◌}
use native.Mathlib.Decide.{dec_lt}
use native.Mathlib.Omega.{arith}
use lib.ListN.{length, get_or, get_or-eq_default}
use lib.IntN.{ℤ, pos}
use Rattle.lists.specs.Tab.{tab}
use Rattle.lists.specs.Grid.{grid}
use Rattle.lists.proofs.Tab.{length-tab, get_d-tab}
use Rattle.lists.proofs.Grid.{placed}
use Rattle.quantize.specs.Quantize.{divisor_of}
use Rattle.quantize.proofs.Zero.{coefficient-zero}
use Rattle.forward.specs.Forward.{scaled_sum}
use Rattle.forward.specs.Canonical.{canonical_at, canonical, coefficients_at, coefficients}
use Rattle.plane.specs.Plane.{blocks, block_of, plane_coefficients}
use Rattle.percent.specs.Percent.{percent_table}
use Rattle.percent.specs.Nonzeros.{ZerosStay}
use Rattle.percent.proofs.Table.{divisor-grows, table-divisor}

-- one coefficient
pub canonical-zero : (block base : List ℕ) (p q n : ℕ) → p ≤ q → n < 64 → canonical block (percent_table base p) n ≡ pos 0 → canonical block (percent_table base q) n ≡ pos 0
unfolding canonical_at
canonical-zero block base p q n h b e =
    let grows : divisor_of (get_or (percent_table base p) n 0) ≤ divisor_of (get_or (percent_table base q) n 0) = omega (arith, table-divisor base p n b, table-divisor base q n b, divisor-grows (get_or base n 0) p q h) in
    coefficient-zero (scaled_sum 128 block n) _ _ grows e

-- a list of them
tab-zeros : (n : ℕ) (f g : ℕ → ℤ) → ((k : ℕ) → k < n → f k ≡ pos 0 → g k ≡ pos 0) → ZerosStay (tab n f) (tab n g)
tab-zeros n f g h i e = go (dec_lt i n)
  where
    go : Dec (i < n) → get_or (tab n g) i (pos 0) ≡ pos 0
    go (yes b) = get_d-tab n g (pos 0) i b ∙ h i b (sym (get_d-tab n f (pos 0) i b) ∙ e)
    go (no b) =
        let beyond : length (tab n g) ≤ i = omega (arith, length-tab n g) in
        get_or-eq_default (tab n g) (pos 0) beyond

-- what the block entry writes
pub block-zeros : (block base : List ℕ) (p q : ℕ) → p ≤ q → ZerosStay (coefficients block (percent_table base p)) (coefficients block (percent_table base q))
unfolding coefficients_at
block-zeros block base p q h = tab-zeros 64 _ _ (λ n b. canonical-zero block base p q n h b)

-- what the plane entry writes
pub plane-zeros : (samples : List ℕ) (w h : ℕ) (base : List ℕ) (p q : ℕ) → p ≤ q → ZerosStay (plane_coefficients samples w h (percent_table base p)) (plane_coefficients samples w h (percent_table base q))
unfolding plane_coefficients grid
plane-zeros samples w h base p q l =
    tab-zeros (64 * (blocks w * blocks h)) _ _ (λ i b. canonical-zero (block_of samples w h (i / 64)) base p q (i % 64) l (placed 64 (blocks w * blocks h) i b).0)
