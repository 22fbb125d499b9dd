use Prim.Native.Nat.{◌-◌, ◌*◌}
use mathlib.Core.Path.{refl, ◌∙◌}
use native.Mathlib.Omega.{arith}
use borrow.Author.Rules.{rules}
use lib.ListN.{get_or}
use lib.IntN.{pos}
use mir.Syntax.{w16}
use mir.ValLaws.{to_z-of_z}
use Rattle.integers.specs.Linear.{listed}
use Rattle.passes.specs.Passes.{eight}
use Rattle.block.specs.Block.{first_rows}
use Rattle.block.proofs.Level.{rows-alone, rows-dc, dc-read, level-made}
use Rattle.idct_8x8.proofs.write_i16_rows.Goals as goal

pub returns-then-all_zero : goal.returns-then-all_zero
unfolding eight listed
returns-then-all_zero g c =
    let xs = c.args.input.now in
    let rows = g.row.ROWS in
    let made = level-made eight refl (first_rows rows xs) (rows-alone rows (8 * rows - 1) xs (omega arith) c.all_zero.ensures c.if-all_zero.true) c.requires.output_len (dc-read c.from.type_inv (c.from.ensures ∙ to_z-of_z w16 (get_or xs 0 (pos 0)) (search rules) ∙ rows-dc g.row.ROWS c.requires.rows.0 xs)) (c.put_level.ensures.value, c.put_level.ensures.output_after) in
    record { value = made.0; output_after = made.1 }
