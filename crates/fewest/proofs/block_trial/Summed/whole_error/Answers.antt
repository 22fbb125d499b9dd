use mathlib.Core.Path.{◌≡◌, refl, ◌∙◌}
use mathlib.Core.List.{List}
use Prim.Native.Nat.{ℕ, ◌/◌, ◌%◌, ◌<◌}
use borrow.Author.Tests.{lt-ltb}
use native.Mathlib.Omega.{arith}
use lib.ListN.{get_or}
use Rattle.fewest.specs.Fewest.{squared}
use Rattle.fewest.specs.Blocks.{error_term, error_within}
use Rattle.fewest.proofs.Loops.{added_none, added_more, added-all}
use Rattle.fewest.proofs.block_trial.Summed.whole_error.Goals as goal

here : (a b : List ℕ) (i : ℕ) → i < 64 → squared (get_or a i 0) (get_or b i 0) ≡ error_term 8 8 a b i
unfolding error_term
here a b i h =
    let column : i % 8 < 8 = omega arith in
    let row : i / 8 < 8 = omega arith in
    simp (lt-ltb (i % 8) 8 column, lt-ltb (i / 8) 8 row) refl

pub loop-i-init : goal.loop-i-init
loop-i-init c = added_none _ _

pub loop-i-preserved : goal.loop-i-preserved
loop-i-preserved c = added_more c.loop-i.invariant (c.squared_difference-error.ensures.value ∙ here _ _ c.loop-i.i c.loop-i-test.true) c.squared_difference-error.ensures.upper_bound

pub returns-clause-value : goal.returns-clause-value
unfolding error_within
returns-clause-value c = (added-all c.loop-i.invariant 64 (omega arith)).0
