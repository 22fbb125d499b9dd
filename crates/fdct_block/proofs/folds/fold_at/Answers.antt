use Prim.Native.Nat.{◌^◌, ◌≤◌}
use mathlib.Core.Path.{sym, subst, ◌∙◌}
use native.Mathlib.Omega.{arith}
use lib.IntN.{ℤ, nat_abs, ◌+ℤ◌}
use mir.Syntax.{w16}
use mir.Val.{to_z, of_z}
use Rattle.basis.specs.Basis.{signed}
use Rattle.basis.proofs.Mirror.{odd}
use Rattle.forward.proofs.Folding.{pairs-fold}
use Rattle.fdct_block.proofs.Narrow.{kept}
use Rattle.fdct_block.proofs.folds.fold_at.Goals as goal

-- a pair that is passed on
passed : (z : ℤ) → nat_abs z ≤ 2 ^ 12 → nat_abs (to_z w16 (of_z w16 z)) ≤ 2 ^ 12
passed z h = rw (kept z (omega arith)) h

pub returns : goal.returns
returns c =
    let upper = kept c.pair_at-top.result (omega (arith, c.pair_at-top.ensures.result_bound)) ∙ c.pair_at-top.ensures.value in let lower = kept c.pair_at-bottom.result (omega (arith, c.pair_at-bottom.ensures.result_bound)) ∙ c.pair_at-bottom.ensures.value in let small : nat_abs c.pair.result ≤ 2 ^ 13 = omega (arith, c.pair.ensures.result_bound, passed c.pair_at-top.result c.pair_at-top.ensures.result_bound, passed c.pair_at-bottom.result c.pair_at-bottom.ensures.result_bound) in let e = kept c.pair.result (omega arith) in let a = c.args in let sum = pairs-fold a.samples.now a.u a.v a.x a.y c.requires.x_bound.0 c.requires.x_bound.1 in record { value = e ∙ c.pair.ensures.value ∙ (λ i. upper i +ℤ signed (odd a.v) (lower i)) ∙ sum; result_bound = subst (λ (z : ℤ). nat_abs z ≤ 2 ^ 13) (sym e) small }

pub pair_at-top-requires : goal.pair_at-top-requires
pair_at-top-requires c = record { centred = c.requires.centred; i_bound = (omega arith, omega arith) }

pub pair_at-bottom-requires : goal.pair_at-bottom-requires
pair_at-bottom-requires c = record { centred = c.requires.centred; i_bound = (omega arith, omega arith) }

pub pair-requires : goal.pair-requires
pair-requires c = (omega (arith, passed c.pair_at-top.result c.pair_at-top.ensures.result_bound), omega (arith, passed c.pair_at-bottom.result c.pair_at-bottom.ensures.result_bound))
