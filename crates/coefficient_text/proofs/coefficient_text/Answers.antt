use Prim.Native.Nat.{ℕ, ◌≤◌}
use mathlib.Core.Path.{◌≡◌, refl, sym, ap, ◌∙◌}
use mathlib.Core.Bool.{Bool, true}
use mathlib.Core.List.{List, ◌++◌}
use native.Mathlib.Omega.{arith}
use borrow.Author.Rules.{rules}
use lib.ListN.{length, drop}
use Rattle.coefficient_text.specs.Text.{accepted, refused_text}
use Rattle.coefficient_text.proofs.Input.{accepted-only}
use Rattle.coefficient_text.proofs.Answer.{not-refused, refused-input, done, coded}
use Rattle.coefficient_text.proofs.coefficient_text.Goals as goal

pub returns-then-not-is_accepted : goal.returns-then-not-is_accepted
unfolding refused_text
returns-then-not-is_accepted c =
    let no = sym c.is_accepted.ensures ∙ c.if-not-is_accepted.true in
    let all = refused-input _ _ (search rules) no refl (ap (λ (l : List ℕ). l ++ drop 10 c.args.out.now) c.copy_from_slice.ensures.after) in
    record { value = all.0; out_after = all.1.0; count_in_bounds = all.1.1 }

-- past the test of the input
long : (input : List ℕ) {b : Bool} → b ≡ accepted input → b ≡ true → length input ≡ 75
long input e t = (accepted-only input (sym e ∙ t)).1

pub slice_bounds-fdct_quantize-count : goal.slice_bounds-fdct_quantize-count
slice_bounds-fdct_quantize-count c = omega (arith, long _ c.is_accepted.ensures c.if-not-is_accepted.false)

pub slice_bounds-fdct_quantize-start : goal.slice_bounds-fdct_quantize-start
slice_bounds-fdct_quantize-start c =
    let h : 11 ≤ length c.args.input.now = omega (arith, long _ c.is_accepted.ensures c.if-not-is_accepted.false) in
    search rules

pub returns : goal.returns
returns c =
    let yes = sym c.is_accepted.ensures ∙ c.if-not-is_accepted.false in
    let cs = coded c.args.input.now (accepted-only _ yes).1 (c.fdct_quantize.ensures.value, c.fdct_quantize.ensures.out_after) in
    let all = done _ _ (search rules) yes cs c.put_numbers.ensures in
    record { value = all.0; out_after = all.1.0; count_in_bounds = all.1.1 }

pub returns-in_err-fdct_quantize : goal.returns-in_err-fdct_quantize
returns-in_err-fdct_quantize c =
    let yes = sym c.is_accepted.ensures ∙ c.if-not-is_accepted.false in
    absurd (not-refused c.args.input.now c.in_err-fdct_quantize.field-0.0 (accepted-only _ yes).1 c.in_err-fdct_quantize.ensures.value)
