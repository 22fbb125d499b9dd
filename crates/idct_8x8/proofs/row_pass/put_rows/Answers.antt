use Prim.Native.Nat.{ℕ, ◌+◌, ◌*◌}
use mathlib.Core.Path.{◌≡◌, refl, sym, ap, ap₂, ◌∙◌}
use mathlib.Core.List.{List, []}
use native.Mathlib.Omega.{arith}
use lib.ListN.{length, get_or}
use lib.Seq.{paste}
use Rattle.lists.specs.Tab.{tab}
use Rattle.lists.proofs.Tab.{get_d-tab, tab-ext}
use Rattle.clamping.specs.Counts.{counted, tally_one}
use Rattle.passes.specs.Passes.{eight, row_pass}
use Rattle.block.specs.Block.{column}
use Rattle.block.proofs.Rows.{rows_none, rows-turn, rows_all, row_made}
use Rattle.block.proofs.Counts.{added, added_next, columns-counted}
use Rattle.idct_8x8.proofs.Fit.{length-eight, column-row}
use Rattle.idct_8x8.proofs.row_pass.put_rows.Goals as goal

pub loop-row-init : goal.loop-row-init
loop-row-init g c = rows_none (omega arith)

pub loop-row-preserved : goal.loop-row-preserved
loop-row-preserved g c =
    let y = c.loop-row.row in
    let row = get_or c.args.passed.now y [] in
    let made =
    sym (get_d-tab 8 (λ y. g.T.Number.values (get_or c.args.passed.now y [])) [] y (omega arith))
    ∙ row_made (row_pass eight) _ 8 c.requires.passed_value y (omega arith) in
    let long : length row ≡ 8 = sym (g.met.T.Number.length_values row) ∙ ap length made ∙ length-eight _ in
    rows-turn c.loop-row.invariant (omega arith) refl made (ap length made ∙ length-eight _) long
    (c.put_row.ensures ∙ ap (λ (q : List ℕ). paste c.loop-row.output (y * 8) q (length row)) (g.met.T.Counted.clamps row))

pub loop-x-init : goal.loop-x-init
unfolding added tab
loop-x-init g c = record { value = refl; few = omega arith }

pub loop-x-preserved : goal.loop-x-preserved
loop-x-preserved g c = record {
  value = ap₂ ◌+◌ c.loop-x.invariant.value c.tally_column-t.ensures.value ∙ sym (added_next _ _);
  few = omega (arith, c.loop-x.invariant.few, c.tally_column-t.ensures.upper_bound);
}

pub returns : goal.returns
returns g c =
    let l = c.loop-x in
    let all : l.x ≡ 8 = omega arith in
    record {
      value =
          c.from.ensures ∙ l.invariant.value ∙ ap (λ (n : ℕ). added (tab n (λ k. counted tally_one (column g.T.Number.values c.args.passed.now k)))) all
          ∙ ap added (tab-ext 8 _ _ (λ x b. ap (counted tally_one) (sym (column-row g.T.Number.values c.args.passed.now x))))
          ∙ columns-counted tally_one (row_pass eight) _ c.requires.passed_value (λ y. length-eight _);
      output_after = rows_all c.loop-row.invariant (omega arith);
    }
