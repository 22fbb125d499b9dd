-- "Finer only: records the new rule joins were joined before" (document 02, card 9): by the sameness of bare blocks, which stays as it
-- was (`stored_blocks::same`).
-- Assumes nothing.
use mathlib.Core.Path.{◌≡◌, sym, ap, ◌∙◌}
use mathlib.Core.Bool.{Bool, true, false}
use mathlib.Core.List.{List}
use Prim.Native.Nat.{ℕ}
use lib.Dec.{T}
use lib.ListN.{length}
use lib.IntN.{ℤ}
use lib.Ieee.{Float}
use Rattle.lists.specs.Tab.{tab}
use Rattle.lists.proofs.Tab.{length-tab}
use Rattle.refusals.specs.Refusals.{written}
use Rattle.refusals.proofs.Refusals.{has, ◌then◌, accepted}
use Rattle.refusals.specs.Numbers.{Answer, answer}
use Rattle.stored_blocks.specs.Stored.{same_blocks, same_tests, same_answer}
use Rattle.stored_blocks.proofs.Entries.{same-yes, same-equal}
use Rattle.guarded_quantizer.specs.declared.QuantizedBlock.{QuantizedBlock}
use Rattle.guarded_quantizer.specs.Same.{same_numbers, same_records, bare_block}
use Rattle.guarded_quantizer.specs.Answer.{coefficients_of, guarded_answer}
use Rattle.guarded_quantizer.proofs.Same.{finer}
use Rattle.guarded_quantizer.proofs.Bare.{bare-same, same-bare, same-coefficients}

abbrev yes-answer : Answer Bool
yes-answer = record { status = 0; value = true }

equal-answer : (a b : List ℤ) → length a ≡ 64 → length b ≡ 64 → a ≡ b → same_answer a b ≡ yes-answer
equal-answer a b p q e =
    let both = accepted (same_blocks a b) false (same_tests a b) (has p then has q then tt) (sym (same-equal a b e)) in
    λ i. record { status = sym both.0 i; value = sym (both.1 ∙ ap (λ (s : ℕ). written s (same_blocks a b) false) both.0) i }

-- the rule before, DC and AC places 1 to 63, is that sameness of the records' bare blocks, both ways
pub numbers-answer : (a b : QuantizedBlock) → T (same_numbers a b) → same_answer (bare_block a) (bare_block b) ≡ yes-answer
unfolding bare_block
numbers-answer a b t = equal-answer (bare_block a) (bare_block b) (length-tab 64 _) (length-tab 64 _) (bare-same a b t)

pub answer-numbers : (a b : QuantizedBlock) → T (same_blocks (bare_block a) (bare_block b)) → T (same_numbers a b)
unfolding bare_block
answer-numbers a b t = same-bare a b (same-yes (bare_block a) (bare_block b) (length-tab 64 _) (length-tab 64 _) t)

-- whatever records are handed in
pub joined-before : (a b : QuantizedBlock) → T (same_records a b) → same_answer (bare_block a) (bare_block b) ≡ yes-answer
joined-before a b t = numbers-answer a b (finer a b t)

-- two that the guarded entry made: the coefficients themselves, in natural order
pub made-joined : (block quant : List ℕ) (rs : List Float) (block' quant' : List ℕ) (rs' : List Float) → (guarded_answer block quant rs).status ≡ 0 → (guarded_answer block' quant' rs').status ≡ 0 →
    T (same_records (guarded_answer block quant rs).value (guarded_answer block' quant' rs').value) → same_answer (tab 64 (coefficients_of block quant rs)) (tab 64 (coefficients_of block' quant' rs')) ≡ yes-answer
made-joined block quant rs block' quant' rs' e e' t = equal-answer _ _ (length-tab 64 _) (length-tab 64 _) (same-coefficients block quant rs block' quant' rs' e e' t)
