use mathlib.Core.Path.{◌≡◌, refl}
use mathlib.Core.Bool.{true, ◌&&◌}
use Prim.Native.Nat.{ℕ, ◌+◌, ◌*◌, ◌≤◌, ◌<◌}
use borrow.Author.Tests.{le-leb}
use native.Mathlib.Omega.{arith}
use lib.Dec.{leb}
use lib.ListN.{length}
use Rattle.lists.proofs.Parts.{length-lent}
use Rattle.refusals.proofs.Refusals.{has, ◌then◌, left}
use Rattle.fewest.proofs.Tables.{made_none, made_more, made_all}
use Rattle.fewest.proofs.totals.percent_tables.Goals as goal

within : (p : ℕ) → p < 200 → (leb 1 (p + 1) && leb (p + 1) 200) ≡ true
within p h = simp (le-leb 1 (p + 1) (omega arith), le-leb (p + 1) 200 (omega arith)) refl

pub loop-p-init : goal.loop-p-init
loop-p-init c = made_none c.args.base.now _ refl

pub loop-p-preserved : goal.loop-p-preserved
loop-p-preserved c =
    let tables = c.loop-p.tables in
    let p = c.loop-p.p in
    let fits : 64 * p + 64 ≤ length tables = omega (arith, c.loop-p.invariant.long) in
    let passed = has c.requires then has (length-lent (64 * p) 64 tables fits) then within p (omega arith) then tt in
    let b : p < 200 = c.loop-p-test.true in
    made_more c.args.base.now c.loop-p.invariant b (left _ _ _ passed (c.percent_table.ensures.value, c.percent_table.ensures.out_after))

pub returns : goal.returns
returns c = made_all c.args.base.now c.loop-p.invariant (omega arith)
