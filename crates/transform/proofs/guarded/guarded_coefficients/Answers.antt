use Prim.Native.Nat.{ℕ, ◌+◌, ◌*◌}
use mathlib.Core.Path.{refl, ◌∙◌}
use native.Mathlib.Omega.{arith}
use lib.ListN.{get_or}
use lib.IntN.{pos}
use mir.Syntax.{w16}
use mir.ValLaws.{to_z-of_z}
use Rattle.lists.proofs.Tab.{none, more, same, all}
use Rattle.guarded_quantizer.proofs.Guarded.{guarded-at}
use Rattle.transform.proofs.Rows.{product-fits, row_at}
use Rattle.transform.proofs.guarded.guarded_coefficients.Goals as goal

pub row_coefficients-row-requires : goal.row_coefficients-row-requires
row_coefficients-row-requires c =
    record { by_index = λ u h. product-fits _ _ c.scaled_row-scaled.ensures u h; v_bound = omega arith }

pub loop-u-preserved : goal.loop-u-preserved
loop-u-preserved c =
    let l = c.loop-u in let a = c.args in let v : ℕ = c.loop-v.v in
    let stored = to_z-of_z w16 (get_or c.row_coefficients-row.result l.u (pos 0)) (record { sfits = omega arith }) in
    let one = row_at _ _ c.scaled_row-scaled.ensures l.u (omega arith) a.block.now a.quant.now v c.row_coefficients-row.ensures in
    more _ 64 _ _ _ _ l.invariant (omega arith) (omega arith)
    (stored ∙ guarded-at a.block.now a.quant.now a.reciprocals.now (8 * v + l.u) c.fdct_values-values.ensures (omega arith) one)

pub returns : goal.returns
returns c = all _ 64 _ _ c.loop-v.invariant (omega arith) (omega arith)

pub loop-v-init : goal.loop-v-init
loop-v-init c = none _ 64 _ refl

pub loop-u-init : goal.loop-u-init
loop-u-init c = same _ 64 _ _ _ c.loop-v.invariant (omega arith)

pub loop-v-preserved : goal.loop-v-preserved
loop-v-preserved c = same _ 64 _ _ _ c.loop-u.invariant (omega arith)
