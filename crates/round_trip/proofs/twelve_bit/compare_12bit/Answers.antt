use mathlib.Core.Path.{◌≡◌, sym, ap, ◌∙◌}
use borrow.Author.Rules.{rules}
use Rattle.std.specs.Prelude.{Err}
use Rattle.refusals.specs.Numbers.{status_of}
use Rattle.refusals.proofs.Refusals.{left}
use Rattle.bounds.proofs.Calls.{err-status, none-refused, compared, taken-12bit, all-refused-12bit, all-done-12bit}
use Rattle.round_trip.proofs.twelve_bit.compare_12bit.Goals as goal

pub returns-in_err-test_blocks : goal.returns-in_err-test_blocks
returns-in_err-test_blocks c =
    let is : c.from_residual.result ≡ Err c.in_err-test_blocks.field-0.0 = search rules in
    let all = all-refused-12bit _ _ _ _ _ c.from_residual.result (ap status_of is ∙ c.in_err-test_blocks.ensures) (err-status _ _ is) in
    record { value = all.0; coefficients_a_after = all.1.0; coefficients_b_after = all.1.1.0; claimed12bit = all.1.1.1 }

-- past the tests nothing is refused
pub returns-in_err-fdct_quantize_12bit : goal.returns-in_err-fdct_quantize_12bit
returns-in_err-fdct_quantize_12bit c =
    absurd (none-refused _ (taken-12bit _ _ _ _ _ (sym c.in_ok-test_blocks.ensures)).0 c.in_err-fdct_quantize_12bit.field-0.0 c.in_err-fdct_quantize_12bit.ensures.value)

pub returns-in_err-fdct_quantize_12bit-2 : goal.returns-in_err-fdct_quantize_12bit-2
returns-in_err-fdct_quantize_12bit-2 c =
    absurd (none-refused _ (taken-12bit _ _ _ _ _ (sym c.in_ok-test_blocks.ensures)).1 c.in_err-fdct_quantize_12bit-2.field-0.0 c.in_err-fdct_quantize_12bit-2.ensures.value)

pub returns : goal.returns
returns c =
    let z = sym c.in_ok-test_blocks.ensures in
    let taken = taken-12bit _ _ _ _ _ z in
    let ca = left _ _ _ taken.0 (c.fdct_quantize_12bit.ensures.value, c.fdct_quantize_12bit.ensures.out_after) in
    let cb = left _ _ _ taken.1 (c.fdct_quantize_12bit-2.ensures.value, c.fdct_quantize_12bit-2.ensures.out_after) in
    let all = all-done-12bit _ _ _ _ _ c.same.result z (compared 2048 _ _ _ ca cb c.same.ensures) ca cb in
    record { value = all.0; coefficients_a_after = all.1.0; coefficients_b_after = all.1.1.0; claimed12bit = all.1.1.1 }
