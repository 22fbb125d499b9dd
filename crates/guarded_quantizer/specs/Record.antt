-- Document 01, "The guarded quantizer", and document 02, card 9: the record of a block's coefficients.
use Rattle.std.specs.Prelude.{ℕ, cond, List, ℤ, pos, ◌==◌, slice_index}
use Rattle.lists.specs.Tab.{tab}
use Rattle.zigzag.specs.Zigzag.{zigzag_order}
use Rattle.guarded_quantizer.specs.Bitmap.{bitmap_of}
use Rattle.guarded_quantizer.specs.declared.QuantizedBlock.{QuantizedBlock}

-- "AC coefficients lie in zigzag order (`ZIGZAG`), place 0 being 0"
unfoldable pub ac_places : (ℕ → ℤ) → List ℤ
ac_places f = tab 64 (λ z. cond (z == 0) (pos 0) (f (slice_index zigzag_order z)))

-- "DC, the 64 AC places and the bitmap come back by value as one record", which "now carries the 64 divisors of the quantizer table handed
-- over": the table itself, since the entry refuses a quantizer 0 (`divisors-are` of proofs/Bare.antt)
unfoldable pub record_of : List ℕ → (ℕ → ℤ) → QuantizedBlock
record_of quant f = record { dc = f 0; ac_coefficients = ac_places f; nonzero_ac = bitmap_of (ac_places f); divisors = quant }
