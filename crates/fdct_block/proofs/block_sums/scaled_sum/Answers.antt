use mathlib.Core.Path.{◌≡◌, sym, ap, ◌∙◌}
use mathlib.Core.List.{List}
use borrow.Author.Rules.{rules}
use lib.IntN.{ℤ}
use mir.Syntax.{w64}
use mir.Val.{to_z, of_z}
use Rattle.forward.specs.Parity.{fold_sum}
use Rattle.forward.proofs.Folding.{fold-sum}
use Rattle.fdct_block.proofs.block_sums.scaled_sum.Goals as goal

pub returns-clause-value : goal.returns-clause-value
returns-clause-value c =
    let a = c.args in
    let e : to_z w64 (of_z w64 c.scaled.result) ≡ c.scaled.result = search rules in
    e ∙ c.scaled.ensures.value ∙ ap (λ (g : List ℤ). fold_sum g a.n) c.fold.ensures.quadrant_after ∙ sym (fold-sum a.samples.now a.n)
