use Prim.Native.Nat.{ℕ, ◌-◌, ◌*◌}
use mathlib.Core.Path.{◌≡◌, refl, ap, ◌∙◌}
use mathlib.Core.List.{List, ◌++◌}
use native.Mathlib.Omega.{arith}
use borrow.Author.Rules.{rules}
use lib.ListN.{length, get_or, take}
use Rattle.std.proofs.lemmas.List.{take_all, drop_all, append-nil}
use lib.IntN.{pos}
use mir.Syntax.{w32}
use mir.ValLaws.{to_z-of_z}
use Rattle.integers.specs.Linear.{listed}
use Rattle.passes.specs.Passes.{eight}
use Rattle.block.specs.Block.{first_rows}
use Rattle.block.specs.Level.{level}
use Rattle.block.proofs.Fit.{first-fit}
use Rattle.block.proofs.Level.{rows-alone, rows-dc, level-made}
use Rattle.idct_8x8.proofs.write_i32_rows.Goals as goal

pub returns-then-all_zero : goal.returns-then-all_zero
unfolding eight listed
returns-then-all_zero g c =
    let xs = c.args.numbers.now in
    let rows = g.row.ROWS in
    let out = c.args.output.now in
    let whole : take 64 out ≡ out = take_all 64 out (omega (arith, c.requires.output_len)) in
    let made = level-made eight refl (first_rows rows xs) (rows-alone rows (8 * rows - 1) xs (omega arith) c.all_zero.ensures c.if-all_zero.true) (ap length whole ∙ c.requires.output_len) (ap level (to_z-of_z w32 (get_or xs 0 (pos 0)) (search rules) ∙ rows-dc rows c.requires.rows.0 xs)) (c.put_level.ensures.value, c.put_level.ensures.output_after) in
    record { value = made.0; output_after = ap (λ (r : List ℕ). c.put_level.new.output ++ r) (drop_all 64 out (omega (arith, c.requires.output_len))) ∙ append-nil c.put_level.new.output ∙ made.1 }

pub write_fitting-requires-clause-every : goal.write_fitting-requires-clause-every
write_fitting-requires-clause-every g c = first-fit c.args.numbers.now (8 * g.row.ROWS) c.all_fit.ensures c.if-all_fit.true

pub slice_bounds-put_level-end-then-all_zero : goal.slice_bounds-put_level-end-then-all_zero
slice_bounds-put_level-end-then-all_zero g c =
    let long = c.requires.output_len in
    omega (arith, ap length (take_all 64 c.args.output.now (omega (arith, long))), long)

pub put_level-requires : goal.put_level-requires
put_level-requires g c =
    let long = c.requires.output_len in
    omega (arith, ap length (take_all 64 c.args.output.now (omega (arith, long))), long)
