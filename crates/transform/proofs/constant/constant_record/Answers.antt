use mathlib.Core.Path.{refl, sym, ap, ◌∙◌}
use lib.IntN.{ℤ}
use lib.ListN.{get_or}
use mir.Syntax.{w16}
use mir.ValLaws.{to_z-of_z}
use Rattle.integers.proofs.Bound.{small-fits}
use Rattle.lists.specs.Tab.{tab}
use Rattle.quantize.specs.Quantize.{coefficient}
use Rattle.forward.specs.Canonical.{canonical_at}
use Rattle.guarded_quantizer.proofs.DcSum.{constant-sum}
use Rattle.guarded_quantizer.proofs.OnlyDc.{only-dc}
use Rattle.transform.proofs.constant.constant_record.Goals as goal

pub returns : goal.returns
unfolding tab canonical_at
returns c =
    let called = c.constant_dc in let stored = to_z-of_z w16 called.result (small-fits w16 called.result called.ensures.result_bound) in
    let sum = constant-sum c.args.block.now c.requires in
    only-dc _ _ (stored ∙ called.ensures.value ∙ ap (λ (z : ℤ). coefficient z (get_or c.args.quant.now 0 0)) (sym sum)) refl refl
