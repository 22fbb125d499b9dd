-- Document 01, leaf 4, and T.81 A.3.3: the forward transform, over the centre of the samples (128 for 8 bits).
use Rattle.std.specs.Prelude.{List, ℕ, ◌+◌, ◌*◌, ◌/◌, ◌%◌, get_or, ℤ, pos, ◌-ℤ◌, ◌*ℤ◌}
use Rattle.lists.specs.Tab.{tab}
use Rattle.basis.specs.Basis.{basis}
use Rattle.quantize.specs.Quantize.{coefficient}
use Rattle.forward.specs.Sum.{sum_to}

-- the sample at (x, y), less the centre
unfoldable pub centred : ℕ → List ℕ → ℕ → ℕ → ℤ
centred centre block x y = pos (get_or block (8 * y + x) 0) -ℤ pos centre

-- "S(n) is the 64-term sum of (sample - 128)·basis", place 8y + x after place
unfoldable pub scaled_sum : ℕ → List ℕ → ℕ → ℤ
scaled_sum centre block n = sum_to 64 (λ i. centred centre block (i % 8) (i / 8) *ℤ basis n (i % 8) (i / 8))

-- ---- the same of a list c of 64 samples less their centre, which is what the code works on

-- the samples of a block less their centre (`sum-centred` of proofs/Folding.antt: its sums are those of the block)
unfoldable pub centred_block : ℕ → List ℕ → List ℤ
centred_block centre block = tab 64 (λ i. pos (get_or block i 0) -ℤ pos centre)

unfoldable pub centred_sum : List ℤ → ℕ → ℤ
centred_sum c n = sum_to 64 (λ i. get_or c i (pos 0) *ℤ basis n (i % 8) (i / 8))

-- the coefficient n under a table of quantizers
unfoldable pub quantized_sum : List ℤ → List ℕ → ℕ → ℤ
quantized_sum c quant n = coefficient (centred_sum c n) (get_or quant n 0)
