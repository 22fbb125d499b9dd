use mathlib.Core.Path.{refl, sym, ◌∙◌}
use native.Mathlib.Omega.{arith}
use lib.IntN.{pos}
use mir.Syntax.{w32}
use mir.ValLaws.{to_z-of_z}
use Rattle.lists.proofs.Tab.{none, next, filled, tab-get_d}
use Rattle.idct_8x8.proofs.row_pass.widen_8.Goals as goal

pub loop-k-init : goal.loop-k-init
loop-k-init g c = none _ 8 _ refl

pub loop-k-preserved : goal.loop-k-preserved
loop-k-preserved g c =
    next c.loop-k.invariant (omega arith)
    (to_z-of_z w32 c.widen.result (record { sfits = c.widen.type_inv })
    ∙ c.widen.ensures.value ∙ sym (g.met.T.Number.values_at c.args.p c.loop-k.k c.index-p-k.result (omega arith)))

pub returns : goal.returns
returns g c =
    filled c.loop-k.invariant (omega arith) ∙ tab-get_d (pos 0) (g.T.Number.values c.args.p) 8 (omega (arith, g.met.T.Number.length_values c.args.p))
