use mathlib.Core.Path.{refl}
use mathlib.Core.List.{flat_map}
use Rattle.lists.specs.Tab.{tab}
use Rattle.lists.specs.Below.{below}
use Rattle.zigzag.specs.Zigzag.{diagonal, walked, zigzag_order, place_in}
use Rattle.zigzag.proofs.Places.{places-by}
use Rattle.zigzag.proofs.natural.natural_to_zigzag.Goals as goal

pub returns : goal.returns
unfolding flat_map tab below diagonal walked zigzag_order place_in
returns c = places-by _ refl tt
