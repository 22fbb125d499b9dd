use mathlib.Core.Path.{◌∙◌}
use mathlib.Core.List.{[], ◌∷◌}
use Rattle.jpeg_block.specs.Search.{fewest_numbers}
use Rattle.jpeg_block.proofs.search.put_fewest.Goals as goal

pub returns : goal.returns
unfolding fewest_numbers
returns c =
    let percent = c.from.ensures ∙ c.found_percent-percent.ensures in
    let trials = c.from-2.ensures in
    c.copy_from_slice.ensures.after ∙ (λ i. percent i ∷ c.args.fewest.off ∷ trials i ∷ [])
