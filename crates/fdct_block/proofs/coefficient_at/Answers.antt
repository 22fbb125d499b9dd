use mathlib.Core.Path.{◌≡◌, sym, ap, ◌∙◌}
use mathlib.Core.List.{List}
use borrow.Author.Rules.{rules}
use lib.IntN.{ℤ}
use mir.Syntax.{w16}
use mir.Val.{to_z, of_z}
use Rattle.quantize.specs.Quantize.{coefficient}
use Rattle.forward.specs.Parity.{fold_sum}
use Rattle.forward.proofs.Folding.{fold-sum}
use Rattle.fdct_block.proofs.coefficient_at.Goals as goal

pub returns-clause-value : goal.returns-clause-value
returns-clause-value c =
    let a = c.args in
    let e : to_z w16 (of_z w16 c.quantized.result) ≡ c.quantized.result = search rules in
    e ∙ c.quantized.ensures.value ∙ ap (λ (z : ℤ). coefficient z a.quantizer) (ap (λ (g : List ℤ). fold_sum g a.n) c.fold.ensures.quadrant_after ∙ sym (fold-sum a.samples.now a.n))
