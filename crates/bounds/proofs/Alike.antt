-- What equal coefficients bound: the first half of demand 3, and document 02, card 8, of 12 bits.
-- Assumes nothing.
use mathlib.Core.Path.{◌≡◌, sym, ap, ◌∙◌}
use mathlib.Core.List.{List}
use Prim.Native.Nat.{ℕ, ◌<◌, ◌≤◌}
use lib.ListN.{get_or}
use lib.IntN.{ℤ, pos}
use Rattle.lists.proofs.Tab.{get_d-tab}
use Rattle.forward.specs.Forward.{scaled_sum}
use Rattle.quantize.specs.Quantize.{coefficient}
use Rattle.forward.specs.Canonical.{canonical_at, coefficients_at, coefficients, coefficients12bit}
use Rattle.orthogonality.proofs.Energy.{energy-8bit, energy-23}
use Rattle.bounds.specs.Demand3.{Alike, Alike12bit}

module _ (centre : ℕ) where
  -- coefficient n of a block
  pub coefficient-at : (a quant : List ℕ) (n : ℕ) → n < 64 → get_or (coefficients_at centre a quant) n (pos 0) ≡ coefficient (scaled_sum centre a n) (get_or quant n 0)
  unfolding coefficients_at canonical_at
  coefficient-at a quant n h = get_d-tab 64 _ (pos 0) n h

  -- where the lists are equal, each coefficient is
  each-equal : (quant a b : List ℕ) → coefficients_at centre a quant ≡ coefficients_at centre b quant → (n : ℕ) → n < 64 →
      coefficient (scaled_sum centre a n) (get_or quant n 0) ≡ coefficient (scaled_sum centre b n) (get_or quant n 0)
  each-equal quant a b e n h = sym (coefficient-at a quant n h) ∙ ap (λ (l : List ℤ). get_or l n (pos 0)) e ∙ coefficient-at b quant n h

pub alike : (quant a b : List ℕ) → ((i : ℕ) → get_or quant i 0 ≤ 255) → coefficients a quant ≡ coefficients b quant → Alike quant a b
alike quant a b most e = energy-8bit 128 a b quant (each-equal 128 quant a b e) (λ n h. most n)

-- quantizers of any size
pub alike-12bit : (quant a b : List ℕ) → coefficients12bit a quant ≡ coefficients12bit b quant → Alike12bit quant a b
alike-12bit quant a b e = energy-23 2048 a b quant (each-equal 2048 quant a b e)
