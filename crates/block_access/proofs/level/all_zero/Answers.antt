use mathlib.Core.Path.{sym, ap, ◌∙◌}
use native.Mathlib.Omega.{arith}
use lib.IntN.{pos}
use Rattle.lists.specs.Every.{every}
use Rattle.lists.proofs.Every.{every-next}
use Rattle.block.specs.Level.{is_zero}
use Rattle.block_access.proofs.level.all_zero.Goals as goal

pub loop-x-init : goal.loop-x-init
unfolding every
loop-x-init g c = ap is_zero c.zero-bits.ensures

pub loop-x-preserved : goal.loop-x-preserved
loop-x-preserved g c =
    let xs = c.args.values.now in
    let k = c.loop-x.x-index in
    let item = ap g.T.Number.value c.x-item.is ∙ sym (g.met.T.Number.values_at xs k c.x-item.result (omega arith)) in
    c.or-bits.ensures ∙ every-next is_zero (pos 0) (g.T.Number.values xs) k c.loop-x.invariant (omega (arith, g.met.T.Number.length_values xs)) (ap is_zero item)
