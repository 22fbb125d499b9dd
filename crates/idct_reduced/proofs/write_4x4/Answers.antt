use mathlib.Core.Path.{◌≡◌, refl, ap, subst, ◌∙◌}
use mathlib.Core.List.{List, ◌++◌}
use Prim.Native.Nat.{ℕ}
use native.Mathlib.Omega.{arith}
use borrow.Author.Rules.{rules}
use lib.ListN.{length, get_or, take}
use Rattle.std.proofs.lemmas.List.{take_all, drop_all, append-nil}
use lib.IntN.{pos}
use mir.Syntax.{w16}
use mir.ValLaws.{to_z-of_z}
use Rattle.integers.specs.Linear.{listed}
use Rattle.passes.specs.Passes.{four}
use Rattle.block.proofs.Rows.{first-all}
use Rattle.block.proofs.Level.{Alone, rows-alone, dc-read, level-made}
use Rattle.idct_reduced.proofs.write_4x4.Goals as goal

pub returns-then-all_zero : goal.returns-then-all_zero
unfolding four listed
returns-then-all_zero c =
    let xs = c.args.input.now in
    let long : length xs ≡ 64 = omega arith in
    let out = c.args.output.now in
    let whole : take 16 out ≡ out = take_all 16 out (omega (arith, c.requires.1)) in
    let made = level-made four refl xs (subst Alone (first-all xs long) (rows-alone 8 63 xs (omega arith) c.all_zero.ensures c.if-all_zero.true)) (ap length whole ∙ c.requires.1) (dc-read c.from.type_inv (c.from.ensures ∙ to_z-of_z w16 (get_or xs 0 (pos 0)) (search rules))) (c.put_level.ensures.value, c.put_level.ensures.output_after) in
    record { value = made.0; output_after = ap (λ (r : List ℕ). c.put_level.new.output ++ r) (drop_all 16 out (omega (arith, c.requires.1))) ∙ append-nil c.put_level.new.output ∙ made.1 }
