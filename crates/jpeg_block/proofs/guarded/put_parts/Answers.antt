use mathlib.Core.Path.{ap, ◌∙◌}
use mathlib.Core.List.{[], ◌∷◌}
use lib.IntN.{ℤ}
use mir.Syntax.{w16}
use mir.Val.{SFits}
use mir.ValLaws.{to_z-of_z}
use borrow.Author.Rules.{rules}
use Rattle.jpeg_block.proofs.Places.{one_left}
use Rattle.jpeg_block.proofs.guarded.put_parts.Goals as goal

pub returns-clause-dc_after : goal.returns-clause-dc_after
returns-clause-dc_after c =
    let fits : SFits w16 c.args.made.dc = search rules in
    one_left c.args.dc.now _ c.requires.0 ∙ ap (λ (v : ℤ). v ∷ []) (to_z-of_z w16 _ fits)

pub returns-clause-nonzero_ac_after : goal.returns-clause-nonzero_ac_after
returns-clause-nonzero_ac_after c = one_left c.args.nonzero_ac.now _ c.requires.2
