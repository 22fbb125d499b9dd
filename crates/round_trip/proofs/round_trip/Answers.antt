use mathlib.Core.Path.{◌≡◌, sym, ap, subst, ◌∙◌}
use mathlib.Core.List.{List}
use Prim.Native.Nat.{ℕ}
use native.Mathlib.Omega.{arith}
use borrow.Author.Rules.{rules}
use lib.ListN.{length, get_or}
use mir.Syntax.{w8}
use mir.Val.{Fits}
use Rattle.std.specs.Prelude.{Result, Ok, Err}
use Rattle.integers.specs.Fits16.{Fits16}
use Rattle.lists.specs.Every.{Every}
use Rattle.refusals.specs.declared.Refusal.{Refusal}
use Rattle.refusals.specs.Refusals.{Test, status}
use Rattle.refusals.specs.Numbers.{Answer, answer, status_of, told}
use Rattle.refusals.proofs.Refusals.{has, ◌then◌}
use Rattle.forward.specs.Canonical.{Bytes}
use Rattle.block.specs.declared.Clamped.{Clamped}
use Rattle.bounds.proofs.Theorem.{demand-3}
use Rattle.bounds.proofs.Calls.{length-coefficients, length-products, lengths, err-status, none-refused, coded, multiplied, inverted, compared, all-refused, all_done}
use Rattle.round_trip.proofs.round_trip.Goals as goal

bytes : (l : List ℕ) → length l ≡ 64 → ((i : ℕ) → Fits w8 (get_or l i 0)) → Bytes l
bytes l h f = record { long = h; most = λ i. omega (arith, (f i).fits) }

-- the status of a call by its tests
answer-status : (ts : List Test) (value zero : Clamped) (r : Result Clamped Refusal) → told zero r ≡ answer ts value zero → status_of r ≡ status ts
answer-status ts value zero (Ok x) e = ap (λ (a : Answer Clamped). a.status) e
answer-status ts value zero (Err d) e = ap (λ (a : Answer Clamped). a.status) e

pub returns-in_err-test_lengths : goal.returns-in_err-test_lengths
returns-in_err-test_lengths c =
    let is : c.from_residual.result ≡ Err c.in_err-test_lengths.field-0.0 = search rules in
    let all = all-refused _ _ _ _ _ _ _ _ _ _ c.from_residual.result (ap status_of is ∙ c.in_err-test_lengths.ensures) (err-status _ _ is) in
    record { value = all.0; coefficients_a_after = all.1.0; coefficients_b_after = all.1.1.0; products_i16_after = all.1.1.1.0; samples_after = all.1.1.1.1.0; products_i32_after = all.1.1.1.1.1.0; samples_i32_after = all.1.1.1.1.1.1.0; claimed = all.1.1.1.1.1.1.1 }

-- past the tests of the lengths nothing is refused
pub returns-in_err-fdct_quantize : goal.returns-in_err-fdct_quantize
returns-in_err-fdct_quantize c =
    let long = lengths _ _ _ _ _ _ _ _ _ (sym c.in_ok-test_lengths.ensures) in
    absurd (none-refused _ (has long.0 then has long.2 then has long.3 then tt) c.in_err-fdct_quantize.field-0.0 c.in_err-fdct_quantize.ensures.value)

pub returns-in_err-fdct_quantize-2 : goal.returns-in_err-fdct_quantize-2
returns-in_err-fdct_quantize-2 c =
    let long = lengths _ _ _ _ _ _ _ _ _ (sym c.in_ok-test_lengths.ensures) in
    absurd (none-refused _ (has long.1 then has long.2 then has long.4 then tt) c.in_err-fdct_quantize-2.field-0.0 c.in_err-fdct_quantize-2.ensures.value)

pub returns-in_err-dequantize : goal.returns-in_err-dequantize
returns-in_err-dequantize c =
    let long = lengths _ _ _ _ _ _ _ _ _ (sym c.in_ok-test_lengths.ensures) in
    let ca = coded _ _ _ long.0 long.2 long.3 (c.fdct_quantize.ensures.value, c.fdct_quantize.ensures.out_after) in
    absurd (none-refused _ (has (ap length ca ∙ length-coefficients 128 _ _) then has long.2 then has long.7 then tt) c.in_err-dequantize.field-0.0 c.in_err-dequantize.ensures.value)

pub write_i16-requires : goal.write_i16-requires
write_i16-requires c =
    let long = lengths _ _ _ _ _ _ _ _ _ (sym c.in_ok-test_lengths.ensures) in
    let ca = coded _ _ _ long.0 long.2 long.3 (c.fdct_quantize.ensures.value, c.fdct_quantize.ensures.out_after) in
    let q = multiplied _ _ _ ca long.2 long.7 (c.dequantize.ensures.value, c.dequantize.ensures.out_after) in
    let back = (demand-3 _ (bytes _ long.2 c.type_inv.quant)).1 _ (bytes _ long.0 c.type_inv.a) in
    record { every = subst (Every Fits16) (sym q) back.0; products_len = (ap length q ∙ length-products _ _, long.5) }

pub returns : goal.returns
returns c =
    let z = sym c.in_ok-test_lengths.ensures in
    let long = lengths _ _ _ _ _ _ _ _ _ z in
    let ca = coded _ _ _ long.0 long.2 long.3 (c.fdct_quantize.ensures.value, c.fdct_quantize.ensures.out_after) in
    let cb = coded _ _ _ long.1 long.2 long.4 (c.fdct_quantize-2.ensures.value, c.fdct_quantize-2.ensures.out_after) in
    let q = multiplied _ _ _ ca long.2 long.7 (c.dequantize.ensures.value, c.dequantize.ensures.out_after) in
    let p = c.write_i16.ensures ∙ q in
    let all = all_done _ _ _ _ _ _ _ _ _ _ c.same.result z (bytes _ long.2 c.type_inv.quant) (bytes _ long.0 c.type_inv.a) (bytes _ long.1 c.type_inv.b) (compared 128 _ _ _ ca cb c.same.ensures)
    ca cb p (inverted _ _ _ p long.6 (answer-status _ _ _ c.islow_block.result c.islow_block.ensures.value, c.islow_block.ensures.output_after)) q (inverted _ _ _ q long.8 (answer-status _ _ _ c.islow_block_i32.result c.islow_block_i32.ensures.value, c.islow_block_i32.ensures.output_after)) in
    record { value = all.0; coefficients_a_after = all.1.0; coefficients_b_after = all.1.1.0; products_i16_after = all.1.1.1.0; samples_after = all.1.1.1.1.0; products_i32_after = all.1.1.1.1.1.0; samples_i32_after = all.1.1.1.1.1.1.0; claimed = all.1.1.1.1.1.1.1 }
