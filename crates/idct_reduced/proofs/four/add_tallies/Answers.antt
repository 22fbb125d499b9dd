use Prim.Native.Nat.{ℕ, ◌+◌, ◌≤◌}
use mathlib.Core.Path.{◌≡◌, refl, ap, ap₂, ◌∙◌}
use native.Mathlib.Omega.{arith}
use lib.ListN.{get_or}
use lib.IntN.{ℤ, pos}
use lib.Seq.{get_or-set_other}
use mir.Syntax.{w32}
use mir.ValLaws.{to_z-of_z}
use Rattle.lists.proofs.Tab.{none, next, filled}
use Rattle.clamping.specs.Rule.{rule_u8}
use Rattle.clamping.specs.Counts.{tally_one}
use Rattle.clamping.proofs.ByRule.{tally-most}
use Rattle.idct_reduced.proofs.four.add_tallies.Goals as goal

few : (z : ℤ) {n : ℕ} → n ≡ tally_one (rule_u8 z) → n ≤ 256
few z e = omega (arith, e, tally-most (rule_u8 z))

pub overflow_add-t : goal.overflow_add-t
overflow_add-t c =
    record { fits = omega (arith, few _ ((let it : (c.tally_i32.result ≡ tally_one (rule_u8 (get_or c.args.q.now c.loop-x.x (pos 0)))) = c.tally_i32.ensures ∙ ap (λ (z : ℤ). tally_one (rule_u8 z)) (to_z-of_z w32 _ (record { sfits = c.tally_i32-arg-1.given })) in it)), c.loop-x.invariant.1 c.loop-x.x (omega arith), c.requires c.loop-x.x) }

pub loop-x-preserved : goal.loop-x-preserved
loop-x-preserved c =
    (next c.loop-x.invariant.0 (omega arith) (ap₂ ◌+◌ (c.loop-x.invariant.1 c.loop-x.x (omega arith)) ((let it : (c.tally_i32.result ≡ tally_one (rule_u8 (get_or c.args.q.now c.loop-x.x (pos 0)))) = c.tally_i32.ensures ∙ ap (λ (z : ℤ). tally_one (rule_u8 z)) (to_z-of_z w32 _ (record { sfits = c.tally_i32-arg-1.given })) in it))), λ j b. get_or-set_other c.loop-x.t c.loop-x.x j _ 0 (omega arith) ∙ c.loop-x.invariant.1 j (omega arith))

pub loop-x-init : goal.loop-x-init
loop-x-init c = (none _ 4 _ (omega arith), λ k l. refl)

pub returns : goal.returns
returns c = filled c.loop-x.invariant.0 (omega arith)
