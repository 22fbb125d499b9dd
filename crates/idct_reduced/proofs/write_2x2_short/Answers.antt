use mathlib.Core.Path.{◌≡◌, refl, subst, ◌∙◌}
use native.Mathlib.Omega.{arith}
use borrow.Author.Rules.{rules}
use lib.ListN.{length, get_or}
use lib.IntN.{pos}
use mir.Syntax.{w16}
use mir.ValLaws.{to_z-of_z}
use Rattle.integers.specs.Linear.{listed}
use Rattle.passes.specs.Passes.{two}
use Rattle.block.proofs.Rows.{first-all}
use Rattle.block.proofs.Level.{Alone, rows-alone, dc-read, level-made}
use Rattle.idct_reduced.proofs.write_2x2_short.Goals as goal

pub returns-then-all_zero : goal.returns-then-all_zero
unfolding two listed
returns-then-all_zero c =
    let xs = c.args.input.now in
    let long : length xs ≡ 64 = omega arith in
    let made = level-made two refl xs (subst Alone (first-all xs long) (rows-alone 8 63 xs (omega arith) c.all_zero.ensures c.if-all_zero.true)) c.requires (dc-read c.from.type_inv (c.from.ensures ∙ to_z-of_z w16 (get_or xs 0 (pos 0)) (search rules))) (c.put_level.ensures.value, c.put_level.ensures.output_after) in
    record { counts = made.0; output_after = made.1 }
