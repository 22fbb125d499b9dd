use Prim.Native.Nat.{ℕ}
use mathlib.Core.Path.{◌≡◌, refl, sym, ap, ap₂, ◌∙◌}
use mathlib.Core.List.{[]}
use native.Mathlib.Omega.{arith}
use borrow.Author.Rules.{rules}
use Prim.Native.Nat.{◌+◌}
use lib.ListN.{get_or}
use lib.IntN.{ℤ, pos}
use Rattle.lists.specs.Tab.{tab}
use Rattle.clamping.specs.Rule.{rule_u8}
use Rattle.clamping.specs.Counts.{counted, tally_one}
use Rattle.block.proofs.Counts.{counted-more}
use Rattle.idct_8x8.proofs.row_pass.tally_column.Goals as goal

pub loop-y-init : goal.loop-y-init
unfolding tab counted
loop-y-init g c = record { value = refl; few = omega arith }

pub loop-y-preserved : goal.loop-y-preserved
loop-y-preserved g c =
    let y = c.loop-y.y in
    let row = get_or c.args.r.now y [] in
    let number = sym (g.met.T.Number.values_at row c.args.x c.index-r-y.result (search rules)) in
    record {
      value =
          ap₂ ◌+◌ c.loop-y.invariant.value (c.tally-t.ensures.value ∙ ap (λ (v : ℤ). tally_one (rule_u8 v)) number)
          ∙ sym (counted-more tally_one (λ y. get_or (g.T.Number.values (get_or c.args.r.now y [])) c.args.x (pos 0)) y);
      few = omega (arith, c.loop-y.invariant.few, c.tally-t.ensures.upper_bound);
    }

pub returns : goal.returns
returns g c =
    let all : c.loop-y.y ≡ 8 = omega arith in
    record {
      value =
          c.loop-y.invariant.value
          ∙ ap (λ (n : ℕ). counted tally_one (tab n (λ y. get_or (g.T.Number.values (get_or c.args.r.now y [])) c.args.x (pos 0)))) all;
      upper_bound = omega (arith, c.loop-y.invariant.few);
    }
