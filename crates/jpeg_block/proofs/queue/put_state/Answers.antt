use Rattle.lists.specs.Tab.{tab}
use Rattle.jpeg_block.specs.Queue.{state_numbers}
use Rattle.jpeg_block.proofs.queue.put_state.Goals as goal

pub returns : goal.returns
unfolding state_numbers tab
returns c = c.copy_from_slice.ensures.after
