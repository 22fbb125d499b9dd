use Prim.Native.Nat.{ℕ, ◌≤◌}
use mathlib.Core.Path.{◌≡◌, refl, sym, ap, ◌∙◌}
use native.Mathlib.Omega.{arith}
use mathlib.Core.List.{List}
use lib.IntN.{ℤ, pos}
use lib.ListN.{length, get_or}
use Rattle.lists.specs.Tab.{tab}
use Rattle.clamping.specs.Counts.{counted}
use Rattle.passes.specs.Passes.{four, row_pass}
use Rattle.passes.proofs.Steps.{length-row, four-rows}
use Rattle.block.proofs.Rows.{rows_none, rows-turn, rows_all}
use Rattle.idct_reduced.proofs.Columns.{Columns, columns-few, columns-more, columns-all}
use Rattle.idct_reduced.proofs.four.rows_4.Goals as goal

-- a row that was made
long : (p : List ℤ) {q : List ℤ} → q ≡ row_pass four p → length q ≡ 4
unfolding four
long p e = ap length e ∙ length-row four _ four-rows

-- no sum of the four is too large
few : {w : List (List ℤ)} {y : ℕ} {t : List ℕ} → y ≤ 4 → Columns w y t → (x : ℕ) → get_or t x 0 ≤ 1024
few l h x = omega (arith, columns-few _ h x, l)

pub put_row-requires : goal.put_row-requires
put_row-requires c = omega (arith, long _ c.row_4.ensures, c.loop-y.invariant.0.front.long)

pub add_tallies-requires : goal.add_tallies-requires
add_tallies-requires c =
    let l = c.loop-y in λ x. omega (arith, columns-few _ l.invariant.1 x, l.invariant.1.within)

pub loop-y-preserved : goal.loop-y-preserved
unfolding four
loop-y-preserved c =
    let l = c.loop-y in (
      rows-turn l.invariant.0 (omega arith) (c.load_row.ensures (pos 0)) c.row_4.ensures (long _ c.row_4.ensures) (long _ c.row_4.ensures) c.put_row.ensures,
      columns-more _ l.invariant.1 (omega arith) (c.row_4.ensures ∙ ap (row_pass four) (c.load_row.ensures (pos 0))) c.add_tallies.ensures,
    )

pub returns : goal.returns
returns c =
    let l = c.loop-y in record { value = columns-all _ l.invariant.1 (omega arith); output_after = rows_all l.invariant.0 (omega arith) }

pub loop-y-init : goal.loop-y-init
unfolding counted tab
loop-y-init c = (rows_none c.requires, record { within = omega arith; is = refl })

pub slice_bounds-put_row-end : goal.slice_bounds-put_row-end
unfolding counted tab
slice_bounds-put_row-end c = sym (long _ c.row_4.ensures)

pub overflow_add-result : goal.overflow_add-result
unfolding counted tab
overflow_add-result c = record { fits = omega (arith, (few (omega arith) c.loop-y.invariant.1 0), (few (omega arith) c.loop-y.invariant.1 1)) }

pub overflow_add-result-2 : goal.overflow_add-result-2
unfolding counted tab
overflow_add-result-2 c = record { fits = omega (arith, (few (omega arith) c.loop-y.invariant.1 0), (few (omega arith) c.loop-y.invariant.1 1), (few (omega arith) c.loop-y.invariant.1 2)) }

pub overflow_add-result-3 : goal.overflow_add-result-3
unfolding counted tab
overflow_add-result-3 c = record { fits = omega (arith, (few (omega arith) c.loop-y.invariant.1 0), (few (omega arith) c.loop-y.invariant.1 1), (few (omega arith) c.loop-y.invariant.1 2), (few (omega arith) c.loop-y.invariant.1 3)) }
