-- The guarded entry's answer with the divisors made from its own table: the record of the canonical coefficients.
-- Assumes nothing.
use mathlib.Core.Path.{◌≡◌, refl, sym, ap, ◌∙◌}
use mathlib.Core.Bool.{Bool, true, false, cond}
use mathlib.Core.List.{List}
use Prim.Native.Nat.{ℕ, ◌≤◌}
use native.Mathlib.Omega.{arith}
use borrow.Author.Tests.{eqb-true}
use lib.Dec.{eqb}
use lib.ListN.{get_or}
use lib.Ieee.{Float}
use Rattle.refusals.specs.Refusals.{status, written}
use Rattle.refusals.specs.Numbers.{Answer}
use Rattle.refusals.proofs.Refusals.{wrote, passed, passed-all}
use Rattle.forward.specs.Canonical.{Bytes, canonical, coefficients_at}
use Rattle.guarded_quantizer.specs.Divisors.{reciprocals, table_tests, made_divisors, zero_divisors, divisors_answer}
use Rattle.guarded_quantizer.specs.declared.QuantizedBlock.{QuantizedBlock}
use Rattle.guarded_quantizer.specs.Record.{record_of}
use Rattle.guarded_quantizer.specs.Answer.{coefficients_of, guarded_tests, zero_record, guarded_answer}
use Rattle.guarded_quantizer.proofs.Zero.{no_zero}
use Rattle.guarded_quantizer.proofs.Record.{record-tab}
use Rattle.agreement.specs.Agreement.{Quantizers, canonical_answer}
use Rattle.agreement.proofs.Agreement.{equal-coefficients}

module _ (block quant : List ℕ) (samples : (i : ℕ) → get_or block i 0 ≤ 255) (quantizers : (i : ℕ) → get_or quant i 0 ≤ 255) where
  -- where no test fails
  module _ (e : status (guarded_tests block quant) ≡ 0) where
    pub accepted-block : Bytes block
    accepted-block = record { long = eqb-true _ _ (passed-all (guarded_tests block quant) tt e).0; most = samples }

    accepted-table : Bytes quant
    accepted-table = record { long = eqb-true _ _ (passed-all (guarded_tests block quant) tt e).1.0; most = quantizers }

    pub accepted-quantizers : Quantizers quant
    accepted-quantizers = record { bytes = accepted-table; least = λ n h. no_zero quant n (passed-all (guarded_tests block quant) tt e).1.1.0 (omega (arith, accepted-table.long)) }

    same-record : record_of quant (coefficients_of block quant (reciprocals quant)) ≡ record_of quant (canonical block quant)
    unfolding coefficients_at
    same-record = sym (record-tab quant (coefficients_of block quant (reciprocals quant)) refl refl) ∙ record-tab quant (canonical block quant) (equal-coefficients block quant accepted-block accepted-quantizers) refl

  -- whatever the lengths and the quantizers: a call that is refused answers zeros
  by-divisors : (rs : List Float) → (status (guarded_tests block quant) ≡ 0 → rs ≡ reciprocals quant) → guarded_answer block quant rs ≡ canonical_answer block quant
  unfolding guarded_answer canonical_answer written
  by-divisors rs made = ap answered (go (eqb (status (guarded_tests block quant)) 0) refl)
    where
      answered : QuantizedBlock → Answer QuantizedBlock
      answered r = record { status = status (guarded_tests block quant); value = r }

      go : (b : Bool) → eqb (status (guarded_tests block quant)) 0 ≡ b → cond b (record_of quant (coefficients_of block quant rs)) zero_record ≡ cond b (record_of quant (canonical block quant)) zero_record
      go true e = let z = eqb-true _ _ e in ap (λ (l : List Float). record_of quant (coefficients_of block quant l)) (made z) ∙ same-record z
      go false e = refl

  pub same_answer : guarded_answer block quant (reciprocals quant) ≡ canonical_answer block quant
  same_answer = by-divisors (reciprocals quant) (λ _. refl)

  -- with what `quantization_divisors` answers
  pub made-answer : guarded_answer block quant (divisors_answer quant).value.reciprocals ≡ canonical_answer block quant
  unfolding divisors_answer
  made-answer =
      by-divisors (divisors_answer quant).value.reciprocals (λ e.
      ap (λ d. d.reciprocals) (sym (wrote (made_divisors (reciprocals quant)) (made_divisors zero_divisors) (sym (passed (table_tests quant) (passed-all (guarded_tests block quant) tt e).1)) refl)))
