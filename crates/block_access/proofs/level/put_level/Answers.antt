use Prim.Native.Nat.{◌≤◌, ◌*◌}
use mathlib.Core.Path.{◌≡◌, refl, ap, ◌∙◌}
use native.Mathlib.Nat.{mul-le-mul}
use native.Mathlib.Omega.{arith}
use lib.ListN.{length}
use lib.IntN.{ℤ, pos, ◌*ℤ◌}
use mir.Syntax.{w32}
use mir.Val.{SFits, to_z, of_z}
use Rattle.scaling.specs.Scaling.{descaled}
use mir.ValLaws.{to_z-of_z}
use Rattle.integers.specs.Wrap.{wrap}
use Rattle.lists.proofs.Tab.{by-elements}
use Rattle.scaling.proofs.Rounding.{descaled-fits}
use Rattle.clamping.specs.Clamping.{sample_u8}
use Rattle.clamping.specs.Rule.{rule_u8, sampled_u8}
use Rattle.clamping.specs.Counts.{tally_one}
use Rattle.clamping.specs.declared.Sample.{Sample}
use Rattle.clamping.proofs.ByRule.{tally-most}
use Rattle.passes.proofs.Steps.{dc-column}
use Rattle.block.specs.Level.{level}
use Rattle.block_access.proofs.level.put_level.Goals as goal

-- the number that was made
made : {dc product value : ℤ} → SFits w32 dc → product ≡ wrap w32 (to_z w32 (of_z w32 dc) *ℤ pos 4) → value ≡ descaled w32 (to_z w32 (of_z w32 product)) 5 → to_z w32 (of_z w32 value) ≡ level dc
unfolding level
made {dc = dc} f p v = rw (v, dc-column dc f.sfits p) (to_z-of_z w32 _ (descaled-fits w32 (wrap w32 (pos 4 *ℤ dc)) 5))

few : (c : goal.After-tally_i32) → c.tally_i32.result ≡ tally_one (rule_u8 (level c.args.dc))
few c = c.tally_i32.ensures ∙ ap (λ (z : ℤ). tally_one (rule_u8 z)) (made c.ranges.dc c.times.ensures c.descale_by-value.ensures)

pub overflow_mul-result : goal.overflow_mul-result
overflow_mul-result c =
    let one : c.tally_i32.result ≤ 256 = rw (few c) (tally-most (rule_u8 (level c.args.dc))) in
    let most : length c.fill.new.self ≤ 64 = omega (arith, c.fill.ensures.len) in
    record { fits = omega (arith, mul-le-mul most one) }

pub returns : goal.returns
unfolding sampled_u8
returns c =
    let level-sample = ap (λ (r : Sample). r.sample) c.sample_u8-sample.ensures ∙ ap sample_u8 (made c.ranges.dc c.times.ensures c.descale_by-value.ensures) in
    record {
      value = λ i. c.fill.ensures.len i * few c i;
      output_after = by-elements (length c.args.output.now) _ 0 c.fill.new.self c.fill.ensures.len (λ k b. c.fill.ensures.clones k 0 b refl ∙ level-sample);
    }
