use mathlib.Core.Path.{refl}
use mathlib.Core.List.{flat_map}
use Rattle.lists.specs.Tab.{tab}
use Rattle.zigzag.specs.Zigzag.{diagonal, walked, zigzag_order}
use Rattle.zigzag.proofs.zigzag.Goals as goal

pub returns : goal.returns
unfolding flat_map tab diagonal walked zigzag_order
returns c = refl
