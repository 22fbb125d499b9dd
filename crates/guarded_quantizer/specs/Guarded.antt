-- Document 01, "The guarded quantizer": the coefficient at one frequency.
use Rattle.std.specs.Prelude.{ℕ, cond, List, ℤ, slice_index_or}
use Rattle.std.specs.Prelude.{Float}
use Rattle.std.specs.Float.{nan, binary64}
use Rattle.std.specs.Float.Ieee.{mul}
use Rattle.forward.specs.Canonical.{canonical}
use Rattle.guarded_quantizer.specs.Values.{fdct_value}
use Rattle.guarded_quantizer.specs.Binary64.{near_half, rounded_to_i16}

-- "value × reciprocal"
unfoldable pub scaled_value : List ℕ → List Float → ℕ → Float
scaled_value block reciprocals n = mul binary64 (fdct_value block n) (slice_index_or reciprocals n nan)

-- "If the fraction of the size of value × reciprocal lies less than 2^-19 from one half, the canonical coefficient stands; else it is
-- rounded, halves away"
unfoldable pub guarded : List ℕ → List ℕ → List Float → ℕ → ℤ
guarded block quant reciprocals n =
    let q = scaled_value block reciprocals n in
    cond (near_half q) (canonical block quant n) (rounded_to_i16 q)
