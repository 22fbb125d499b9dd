-- Document 02, card 10: the guarded quantizer ("the quick road") and the canonical one ("the sure road").
use Rattle.std.specs.Prelude.{◌≡◌, List, ℕ, ◌≤◌, ◌<◌, get_or}
use Rattle.refusals.specs.Numbers.{Answer, answer}
use Rattle.forward.specs.Canonical.{Bytes, canonical}
use Rattle.guarded_quantizer.specs.Divisors.{reciprocals}
use Rattle.guarded_quantizer.specs.Record.{record_of}
use Rattle.guarded_quantizer.specs.declared.QuantizedBlock.{QuantizedBlock}
use Rattle.guarded_quantizer.specs.Answer.{coefficients_of, guarded_tests, zero_record}

-- "all quantizers 1 to 255": 64 of them
pub record Quantizers (quant : List ℕ) : Type 0 where
  pub bytes : Bytes quant
  pub least : (n : ℕ) → n < 64 → 1 ≤ get_or quant n 0

-- "with the divisors made from that table, both give equal coefficients"
abbrev pub Agree : List ℕ → List ℕ → Type 0
Agree block quant = (n : ℕ) → n < 64 → coefficients_of block quant (reciprocals quant) n ≡ canonical block quant n

-- the record of the canonical coefficients; refusals 1, 2 and 5 as the guarded entry's
unfoldable pub canonical_answer : List ℕ → List ℕ → Answer QuantizedBlock
canonical_answer block quant = answer (guarded_tests block quant) (record_of quant (canonical block quant)) zero_record
