use Rattle.std.proofs.Common.{w32, ◌∙◌, ◌+ℤ◌, ◌*ℤ◌}
use Rattle.std.proofs.lemmas.Int.{to_z-of_z}
use Rattle.integers.specs.Wrap.{wrap}
use Rattle.integers.proofs.Wrap.{wrap-+}
use Rattle.islow.proofs.direct.mul2.Goals as goal

pub returns : goal.returns
returns g c =
    let w = g.T.Wrapping.width in
    let j = to_z-of_z w32 _ c.ranges.j in
    let k = to_z-of_z w32 _ c.ranges.k in
    c.add.ensures ∙ (λ i. wrap w (c.times.ensures i +ℤ c.times-2.ensures i)) ∙ wrap-+ w _ _
    ∙ (λ i. wrap w (g.T.Wrapping.value c.args.x *ℤ j i +ℤ g.T.Wrapping.value c.args.y *ℤ k i))
