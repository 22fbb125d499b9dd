use Prim.Native.Nat.{ℕ, ◌≤◌}
use mathlib.Core.Path.{◌≡◌, ap, ◌∙◌}
use native.Mathlib.Omega.{arith}
use lib.ListN.{get_or}
use lib.IntN.{ℤ, pos}
use mir.Syntax.{w32}
use mir.Val.{SFits, to_z, of_z}
use mir.ValLaws.{to_z-of_z}
use Rattle.lists.specs.Tab.{tab}
use Rattle.lists.proofs.Tab.{tab-get_d}
use Rattle.clamping.specs.Rule.{rule_u8}
use Rattle.clamping.specs.Counts.{counted, tally_one}
use Rattle.clamping.proofs.ByRule.{tally-most}
use Rattle.idct_reduced.proofs.two.tally_4.Goals as goal

-- what one tally gives
one : (v : ℤ) → SFits w32 v → {n : ℕ} → n ≡ tally_one (rule_u8 (to_z w32 (of_z w32 v))) → (n ≡ tally_one (rule_u8 v)) × (n ≤ 256)
one v f e = let f' = e ∙ ap (λ (z : ℤ). tally_one (rule_u8 z)) (to_z-of_z w32 v f) in (f', omega (arith, f', tally-most (rule_u8 v)))

second : (c : goal.After-tally_i32-2) → (c.tally_i32-2.result ≡ tally_one (rule_u8 (get_or c.args.q 1 (pos 0)))) × (c.tally_i32-2.result ≤ 256)
second c = one _ (record { sfits = c.tally_i32-arg-2-1.given }) c.tally_i32-2.ensures

third : (c : goal.After-tally_i32-3) → (c.tally_i32-3.result ≡ tally_one (rule_u8 (get_or c.args.q 2 (pos 0)))) × (c.tally_i32-3.result ≤ 256)
third c = one _ (record { sfits = c.tally_i32-arg-3-1.given }) c.tally_i32-3.ensures

fourth : (c : goal.After-tally_i32-4) → (c.tally_i32-4.result ≡ tally_one (rule_u8 (get_or c.args.q 3 (pos 0)))) × (c.tally_i32-4.result ≤ 256)
fourth c = one _ (record { sfits = c.tally_i32-arg-4-1.given }) c.tally_i32-4.ensures

pub returns : goal.returns
unfolding counted tab
returns c =
    omega (arith, ((let it : (c.tally_i32.result ≡ tally_one (rule_u8 (get_or c.args.q 0 (pos 0)))) × (c.tally_i32.result ≤ 256) = one _ (record { sfits = c.tally_i32-arg-1.given }) c.tally_i32.ensures in it)).0, (second c.before.before.before.before).0, (third c.before.before).0, (fourth c).0) ∙ ap (counted tally_one) (tab-get_d (pos 0) c.args.q 4 c.well_formed.0.1.0.1)

pub overflow_add-result : goal.overflow_add-result
overflow_add-result c = record { fits = omega (arith, ((let it : (c.tally_i32.result ≡ tally_one (rule_u8 (get_or c.args.q 0 (pos 0)))) × (c.tally_i32.result ≤ 256) = one _ (record { sfits = c.tally_i32-arg-1.given }) c.tally_i32.ensures in it)).1, (second c).1) }

pub overflow_add-result-2 : goal.overflow_add-result-2
overflow_add-result-2 c = record { fits = omega (arith, ((let it : (c.tally_i32.result ≡ tally_one (rule_u8 (get_or c.args.q 0 (pos 0)))) × (c.tally_i32.result ≤ 256) = one _ (record { sfits = c.tally_i32-arg-1.given }) c.tally_i32.ensures in it)).1, (second c.before.before).1, (third c).1) }

pub overflow_add-result-3 : goal.overflow_add-result-3
overflow_add-result-3 c = record { fits = omega (arith, ((let it : (c.tally_i32.result ≡ tally_one (rule_u8 (get_or c.args.q 0 (pos 0)))) × (c.tally_i32.result ≤ 256) = one _ (record { sfits = c.tally_i32-arg-1.given }) c.tally_i32.ensures in it)).1, (second c.before.before.before.before).1, (third c.before.before).1, (fourth c).1) }
