use mathlib.Core.Path.{ap, ◌∙◌}
use mathlib.Core.List.{map}
use native.Mathlib.Omega.{arith}
use lib.ListN.{get_or}
use lib.IntN.{ℤ, pos, ◌+ℤ◌}
use mir.Syntax.{w32}
use mir.Val.{to_z, of_z}
use mir.ValLaws.{to_z-of_z}
use Rattle.integers.specs.Wrap.{wrap}
use Rattle.integers.proofs.Wrap.{wrap-read}
use Rattle.idct_12bit.proofs.Each.{each_none, each_more, each_all}
use Rattle.idct_12bit.proofs.passes_12bit.add_each.Goals as goal

pub loop-i-preserved : goal.loop-i-preserved
loop-i-preserved c =
    let x = to_z w32 (of_z w32 c.args.x) in
    let v = get_or c.loop-i.values c.loop-i.i (pos 0) in
    each_more c.loop-i.invariant (omega arith) (wrap-read w32 (v +ℤ x) (c.add.ensures ∙ ap (λ (t : ℤ). wrap w32 (t +ℤ x)) (to_z-of_z w32 v (record { sfits = c.add-arg-1.given }))))

pub returns : goal.returns
returns c =
    each_all c.loop-i.invariant (omega arith) ∙ ap (λ (x : ℤ). map (λ (v : ℤ). wrap w32 (v +ℤ x)) c.args.values.now) (to_z-of_z w32 _ c.ranges.x)

pub loop-i-init : goal.loop-i-init
loop-i-init c = each_none
