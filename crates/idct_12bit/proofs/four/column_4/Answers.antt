use mathlib.Core.Path.{◌∙◌}
use lib.IntN.{◌+ℤ◌}
use mir.Syntax.{w32}
use mir.ValLaws.{to_z-of_z}
use Rattle.integers.specs.Wrap.{wrap}
use Rattle.integers.proofs.Wrap.{wrap-read}
use Rattle.passes.specs.Passes.{dc}
use Rattle.block.proofs.Exact.{fits-at-most}
use Rattle.idct_12bit.proofs.Apart.{four-apart}
use Rattle.idct_12bit.proofs.four.column_4.Goals as goal

pub returns : goal.returns
returns c =
    let p = c.args.p in let read = to_z-of_z w32 (dc p) (record { sfits = c.add-arg-2-1.given }) in
    let twice = wrap-read w32 (dc p +ℤ dc p) (c.add.ensures ∙ (λ i. wrap w32 (read i +ℤ read i))) in
    four-apart p c.well_formed.0.1.0.1 (fits-at-most c.requires) c.pass_4-q.ensures twice c.add_each.ensures
