-- What follows from the agreement for the records that the guarded quantizer makes with its table's own divisors (document 02, card 10): demand
-- 3's bounds, the screen (card 3), sameness (card 9). r is the record: its coefficients in natural order are `bare_block r`, and its divisors
-- are the table's.
-- Assumes nothing.
use mathlib.Core.Path.{◌≡◌, sym, ap, subst₂, ◌∙◌}
use mathlib.Core.List.{List}
use Prim.Native.Nat.{ℕ, ◌≤◌}
use lib.Dec.{T}
use lib.ListN.{get_or}
use lib.IntN.{ℤ}
use Rattle.integers.specs.Fits16.{Fits16}
use Rattle.lists.specs.Every.{Every}
use Rattle.refusals.specs.Refusals.{status}
use Rattle.forward.specs.Canonical.{Bytes, coefficients}
use Rattle.stored_blocks.specs.Dequantize.{dequantized}
use Rattle.stored_blocks.specs.Stored.{screened}
use Rattle.stored_blocks.proofs.Entries.{canonical-passes}
use Rattle.passes.specs.Passes.{eight}
use Rattle.block.specs.Block.{block}
use Rattle.bounds.specs.Demand3.{products, decoded, Alike, Near}
use Rattle.bounds.proofs.Theorem.{demand-3}
use Rattle.guarded_quantizer.specs.declared.QuantizedBlock.{QuantizedBlock}
use Rattle.guarded_quantizer.specs.Divisors.{reciprocals}
use Rattle.guarded_quantizer.specs.Record.{record_of}
use Rattle.guarded_quantizer.specs.Same.{same_records, bare_block}
use Rattle.guarded_quantizer.specs.Answer.{guarded_tests, guarded_answer}
use Rattle.guarded_quantizer.proofs.Bare.{made-record, bare-answer, same_tables, same-coefficients}
use Rattle.agreement.specs.Agreement.{Quantizers}
use Rattle.agreement.proofs.Agreement.{equal-coefficients}
use Rattle.agreement.proofs.Answer.{accepted-block, accepted-quantizers}

-- 8-bit samples, or quantizers
abbrev Small : List ℕ → Type 0
Small l = (i : ℕ) → get_or l i 0 ≤ 255

-- ---- one record
module _ (a quant : List ℕ) (samples : Small a) (quantizers : Small quant) (e : (guarded_answer a quant (reciprocals quant)).status ≡ 0) where
  abbrev r : QuantizedBlock
  r = (guarded_answer a quant (reciprocals quant)).value

  none-failed : status (guarded_tests a quant) ≡ 0
  unfolding guarded_answer
  none-failed = e

  bytes-block : Bytes a
  bytes-block = accepted-block a quant samples quantizers none-failed

  table : Quantizers quant
  table = accepted-quantizers a quant samples quantizers none-failed

  -- its coefficients are those that the canonical block entry writes
  pub record-coefficients : bare_block r ≡ coefficients a quant
  record-coefficients = bare-answer a quant (reciprocals quant) e ∙ equal-coefficients a quant bytes-block table

  pub record-divisors : r.divisors ≡ quant
  unfolding record_of
  record-divisors = ap (λ (q : QuantizedBlock). q.divisors) (made-record a quant (reciprocals quant) e)

  -- demand 3, the second half: dequantized and handed to the 8-bit 8×8 inverse
  pub record-near : Every Fits16 (dequantized (bare_block r) r.divisors) × Near r.divisors a (block eight (dequantized (bare_block r) r.divisors))
  unfolding products decoded
  record-near =
      subst₂ (λ (cs : List ℤ) (q : List ℕ). Every Fits16 (dequantized cs q) × Near q a (block eight (dequantized cs q))) (sym record-coefficients) (sym record-divisors) ((demand-3 quant table.bytes).1 a bytes-block)

  -- the screen says yes
  pub record-passes : T (screened (bare_block r) r.divisors)
  record-passes = subst₂ (λ (cs : List ℤ) (q : List ℕ). T (screened cs q)) (sym record-coefficients) (sym record-divisors) (canonical-passes a quant bytes-block)

-- ---- two records that are the same
module _ (a quant b quant' : List ℕ) (samples : Small a) (quantizers : Small quant) (samples' : Small b) (quantizers' : Small quant')
    (e : (guarded_answer a quant (reciprocals quant)).status ≡ 0) (e' : (guarded_answer b quant' (reciprocals quant')).status ≡ 0)
    (same : T (same_records (guarded_answer a quant (reciprocals quant)).value (guarded_answer b quant' (reciprocals quant')).value)) where
  one_table : quant ≡ quant'
  one_table = same_tables a quant (reciprocals quant) b quant' (reciprocals quant') e e' same

  one_block : coefficients a quant ≡ coefficients b quant
  one_block =
      sym (equal-coefficients a quant (bytes-block a quant samples quantizers e) (table a quant samples quantizers e))
      ∙ same-coefficients a quant (reciprocals quant) b quant' (reciprocals quant') e e' same
      ∙ equal-coefficients b quant' (bytes-block b quant' samples' quantizers' e') (table b quant' samples' quantizers' e')
      ∙ ap (coefficients b) (sym one_table)

  -- demand 3, the first half: the blocks are within its bound, by the one table of both
  pub records-alike : (quant ≡ quant') × Alike quant a b
  records-alike =
      (one_table, (demand-3 quant (table a quant samples quantizers e).bytes).0 a b (bytes-block a quant samples quantizers e) (bytes-block b quant' samples' quantizers' e') one_block)
