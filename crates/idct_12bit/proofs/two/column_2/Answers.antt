use Prim.Native.Nat.{◌^◌}
use mathlib.Core.Path.{sym, ap, subst, ◌∙◌}
use mir.Syntax.{w64}
use Rattle.gains.specs.Gains.{gains2}
use Rattle.passes.specs.Passes.{pass}
use Rattle.block.specs.Bound.{AtMost}
use Rattle.block.proofs.Exact.{fits-at-most}
use Rattle.idct_12bit.proofs.Small.{column-small-two}
use Rattle.idct_12bit.proofs.two.column_2.Goals as goal

pub returns : goal.returns
returns c =
    let value = c.pass_2.ensures ∙ ap (pass w64 gains2 14) c.widen_8.ensures in record { value = value; at_most = subst (AtMost (2 ^ 32)) (sym value) (column-small-two _ (fits-at-most c.requires)) }
