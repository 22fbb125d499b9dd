use mathlib.Core.Path.{refl}
use Rattle.lists.specs.Tab.{tab}
use Rattle.jpeg_block.specs.Queue.{handed_state}
use Rattle.jpeg_block.proofs.queue.handed_state.Goals as goal

pub returns : goal.returns
unfolding handed_state tab
returns c = refl
