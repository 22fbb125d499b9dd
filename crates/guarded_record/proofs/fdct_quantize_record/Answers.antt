use mathlib.Core.Path.{◌≡◌, refl, ap, ◌∙◌}
use mathlib.Core.List.{List}
use Prim.Native.Nat.{ℕ}
use native.Mathlib.Omega.{arith}
use borrow.Author.Rules.{rules}
use lib.Dec.{ltb→lt}
use lib.ListN.{length}
use Rattle.std.specs.Prelude.{Err}
use Rattle.refusals.specs.declared.Refusal.{Refusal}
use Rattle.refusals.specs.Refusals.{status, written}
use Rattle.refusals.specs.Numbers.{Answer, number, told}
use Rattle.refusals.proofs.Refusals.{has, kept}
use Rattle.refusals.proofs.Numbers.{number-nonzero}
use Rattle.forward.specs.Canonical.{canonical}
use Rattle.guarded_quantizer.specs.declared.QuantizationDivisors.{QuantizationDivisors}
use Rattle.guarded_quantizer.specs.Divisors.{made_divisors, zero_divisors, divisors_answer}
use Rattle.guarded_quantizer.specs.Record.{record_of}
use Rattle.guarded_quantizer.specs.Answer.{guarded_tests, zero_record, guarded_answer}
use Rattle.agreement.specs.Agreement.{canonical_answer}
use Rattle.agreement.proofs.Answer.{made-answer}
use Rattle.guarded_record.proofs.fdct_quantize_record.Goals as goal

-- a refused table, of a block of 64
of_table : (block quant : List ℕ) (e : Refusal) → length block ≡ 64 → told (made_divisors zero_divisors) (Err e) ≡ divisors_answer quant → told zero_record (Err e) ≡ canonical_answer block quant
unfolding status divisors_answer canonical_answer
of_table block quant e long h = λ i. record { status = s i; value = (k ∙ ap (λ (n : ℕ). written n (record_of quant (canonical block quant)) zero_record) s) i }
  where
    s : number e ≡ status (guarded_tests block quant)
    s = ap (λ (a : Answer QuantizationDivisors). a.status) h ∙ simp (has long) refl

    k : zero_record ≡ written (number e) (record_of quant (canonical block quant)) zero_record
    k = kept (record_of quant (canonical block quant)) zero_record (λ z. omega (arith, ltb→lt 0 (number e) (number-nonzero e)))

pub returns-in_err-unless : goal.returns-in_err-unless
unfolding status written canonical_answer
returns-in_err-unless c = search rules

pub returns-in_err-divisors : goal.returns-in_err-divisors
returns-in_err-divisors c =
    let long : length c.args.block.now ≡ 64 = search rules in
    let told-err = of_table c.args.block.now c.args.quant.now c.in_err-divisors.field-0.0 long c.in_err-divisors.ensures in search rules

pub returns : goal.returns
returns c =
    let a = c.args in let made : ◌≡◌ {A = Answer QuantizationDivisors} (record { status = 0; value = c.in_ok-divisors.divisors }) (divisors_answer a.quant.now) = c.in_ok-divisors.ensures in
    c.fdct_quantize.ensures ∙ ap (λ (d : Answer QuantizationDivisors). guarded_answer a.block.now a.quant.now d.value.reciprocals) made
    ∙ made-answer a.block.now a.quant.now (λ i. omega (arith, c.type_inv.block i)) (λ i. omega (arith, c.type_inv.quant i))
