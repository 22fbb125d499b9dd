-- Blocks and tables of numbers up to a limit; the coefficients of a block are those of its level-shifted samples; the answer of the entry
-- of one coefficient, as its contract states it. Assumes nothing.
use mathlib.Core.Path.{◌≡◌, ap}
use mathlib.Core.List.{List}
use Prim.Native.Nat.{ℕ, ◌≤◌, ◌<◌, zero-le}
use native.Mathlib.Omega.{arith}
use lib.ListN.{get_or}
use lib.IntN.{ℤ, pos}
use Rattle.lists.specs.Tab.{tab}
use Rattle.lists.proofs.Tab.{length-tab, get_d-every, tab-ext}
use Rattle.forward.specs.Forward.{scaled_sum, centred_block, quantized_sum}
use Rattle.forward.proofs.Folding.{sum-centred}
use Rattle.quantize.specs.Quantize.{coefficient}
use Rattle.refusals.specs.Refusals.{status, written}
use Rattle.refusals.proofs.Refusals.{answered}
use Rattle.forward.specs.Canonical.{UpTo, Bytes, canonical_at, coefficients_at, coefficient_tests, coefficient_answer}

-- blocks and tables are made from the elements of a list; 64 samples of 255 are one of 8 bits, and a table of them
pub up_to : (limit : ℕ) (f : ℕ → ℕ) → ((i : ℕ) → i < 64 → f i ≤ limit) → UpTo limit (tab 64 f)
up_to limit f h = record { long = length-tab 64 f; most = get_d-every (λ (k : ℕ). k ≤ limit) 64 f 0 zero-le h }

pub white : Bytes (tab 64 (λ i. 255))
white = up_to 255 (λ i. 255) (λ i h. omega arith)

pub block-coefficients : (centre : ℕ) (block quant : List ℕ) → tab 64 (quantized_sum (centred_block centre block) quant) ≡ coefficients_at centre block quant
unfolding coefficients_at canonical_at quantized_sum
block-coefficients centre block quant = tab-ext 64 _ _ (λ n b. ap (λ (S : ℤ). coefficient S (get_or quant n 0)) (sum-centred centre block n))

pub one-answers : (block : List ℕ) (q n : ℕ) {s : ℕ} {z : ℤ} → (s ≡ status (coefficient_tests block n)) × (z ≡ written s (coefficient (scaled_sum 128 block n) q) (pos 0)) →
    record { status = s; value = z } ≡ coefficient_answer block q n
one-answers block q n = answered (coefficient (scaled_sum 128 block n) q) (pos 0) (coefficient_tests block n) (λ s z. record { status = s; value = z })
