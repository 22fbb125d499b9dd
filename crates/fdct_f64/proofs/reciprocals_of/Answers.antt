use Rattle.std.specs.Prelude.{◌≡◌, ℕ, ◌+◌, ◌*◌, ◌/◌, ◌%◌, ◌<◌, List, get_or}
use mathlib.Core.Path.{refl, ap, ◌∙◌}
use native.Mathlib.Omega.{arith}
use lib.Ieee.{Float, nan}
use Rattle.lists.specs.Tab.{tab}
use Rattle.lists.proofs.Tab.{none, more, same, all, get_d-tab}
use Rattle.guarded_quantizer.specs.Divisors.{reciprocal, reciprocals}
use Rattle.fdct_f64.proofs.reciprocals_of.Invariants.{one}
use Rattle.fdct_f64.proofs.reciprocals_of.Goals as goal

-- place u of row v is number 8v + u
placed : (quant : List ℕ) (u v : ℕ) → u < 8 → {row : List Float} → row ≡ tab 8 (λ k. reciprocal (get_or quant (8 * v + k) 0) k v) → get_or row u nan ≡ one quant (8 * v + u)
placed quant u v h e =
    let eu : u ≡ (8 * v + u) % 8 = omega arith in
    let ev : v ≡ (8 * v + u) / 8 = omega arith in
    ap (λ (l : List Float). get_or l u nan) e ∙ get_d-tab 8 _ nan u h ∙ (λ i. reciprocal (get_or quant (8 * v + u) 0) (eu i) (ev i))

pub loop-u-preserved : goal.loop-u-preserved
loop-u-preserved c =
    more _ 64 _ _ _ _ c.loop-u.invariant (omega arith) (omega arith) (placed c.args.quant.now c.loop-u.u c.loop-v.v (omega arith) c.reciprocal_row-row.ensures)

pub returns : goal.returns
unfolding reciprocals
returns c = all _ 64 _ _ c.loop-v.invariant (omega arith) (omega arith)

pub loop-v-init : goal.loop-v-init
loop-v-init c = none _ 64 _ refl

pub loop-u-init : goal.loop-u-init
loop-u-init c = same _ 64 _ _ _ c.loop-v.invariant (omega arith)

pub loop-v-preserved : goal.loop-v-preserved
loop-v-preserved c = same _ 64 _ _ _ c.loop-u.invariant (omega arith)
