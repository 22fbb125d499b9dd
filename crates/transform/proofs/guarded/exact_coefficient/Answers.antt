use mathlib.Core.Path.{sym, ◌∙◌}
use mathlib.Core.Bool.{true, false}
use Rattle.transform.proofs.Stored.{chosen}
use Rattle.transform.proofs.guarded.exact_coefficient.Goals as goal

pub returns-then-near_half : goal.returns-then-near_half
returns-then-near_half c =
    let called = c.canonical_coefficient in chosen _ _ true (sym c.if-near_half.true ∙ c.near_half.ensures) called.ensures.value called.ensures.sfits

pub returns : goal.returns
returns c =
    let called = c.round_to_i16 in chosen _ _ false (sym c.if-near_half.false ∙ c.near_half.ensures) called.ensures.value called.ensures.sfits
