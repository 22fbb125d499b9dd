-- Document 01, leaf 4 and "Refusing calls", and document 02, card 8: what the canonical forward entries answer and write. "The sample
-- limit, the width and the centre are parameters of one set of facts": 8 bits have the limit 255 and the centre 128, 12 bits 4095 and
-- 2048. The numbers here are of no width; `coefficients-fit` of proofs/Samples.antt says what width the coefficients need.
use Rattle.std.specs.Prelude.{Bool, ◌≡◌, List, [], ◌∷◌, ◌++◌, map, ℕ, ◌+◌, ◌≤◌, leb, length, get_or, ℤ, pos}
use Rattle.lists.specs.Tab.{tab}
use Rattle.lists.specs.Below.{below}
use Rattle.refusals.specs.Refusals.{Test, ◌unless◌, ◌of◌, block_tests}
use Rattle.refusals.specs.Numbers.{Answer, answer}
use Rattle.forward.specs.Forward.{scaled_sum}
use Rattle.quantize.specs.Quantize.{coefficient}

-- any 64 numbers from 0 to a limit, a block's samples or a table's quantizers
pub record UpTo (limit : ℕ) (l : List ℕ) : Type 0 where
  pub long : length l ≡ 64
  pub most : (i : ℕ) → get_or l i 0 ≤ limit

-- "An 8-bit block is any 64 samples 0..255, a table any 64 quantizers 0..255"
abbrev pub Bytes : List ℕ → Type 0
Bytes l = UpTo 255 l

-- the coefficient n of a block of samples with this centre, under a table of quantizers
unfoldable pub canonical_at : ℕ → List ℕ → List ℕ → ℕ → ℤ
canonical_at centre block quant n = coefficient (scaled_sum centre block n) (get_or quant n 0)

-- all 64, in natural order: what a block entry writes
unfoldable pub coefficients_at : ℕ → List ℕ → List ℕ → List ℤ
coefficients_at centre block quant = tab 64 (canonical_at centre block quant)

-- 8 bits: "(sample - 128)"
abbrev pub canonical : List ℕ → List ℕ → ℕ → ℤ
canonical block quant n = canonical_at 128 block quant n

abbrev pub coefficients : List ℕ → List ℕ → List ℤ
coefficients block quant = coefficients_at 128 block quant

-- 12 bits: "centre by 2048"
abbrev pub coefficients12bit : List ℕ → List ℕ → List ℤ
coefficients12bit block quant = coefficients_at 2048 block quant

-- no sample is above the limit
unfoldable pub up_to : ℕ → List ℕ → Bool
up_to limit block = below 64 (λ i. leb (get_or block i 0) limit)

-- "The sample check comes after lengths. Turned away: 12, a sample above" the limit. No 8-bit sample is above 255 (`eight-bits` of
-- proofs/Samples.antt), so the 8-bit entry has the tests of the lengths alone
abbrev pub sample_tests : {A : Type 0} → ℕ → List ℕ → List ℕ → List A → List Test
sample_tests limit block quant out = block_tests block quant out ++ (12 unless up_to limit block ∷ [])

abbrev pub tests12bit : {A : Type 0} → List ℕ → List ℕ → List A → List Test
tests12bit block quant out = sample_tests 4095 block quant out

-- a block "with 1920 added to each sample", over the number added
unfoldable pub raised : ℕ → List ℕ → List ℕ
raised k block = map (λ (s : ℕ). s + k) block

-- one coefficient: "1; then 4, index above 63"; a refusal's value is 0
abbrev pub coefficient_tests : List ℕ → ℕ → List Test
coefficient_tests block n = 1 unless block of 64 ∷ 4 unless leb n 63 ∷ []

abbrev pub coefficient_answer : List ℕ → ℕ → ℕ → Answer ℤ
coefficient_answer block quantizer n = answer (coefficient_tests block n) (coefficient (scaled_sum 128 block n) quantizer) (pos 0)
