use mathlib.Core.Path.{refl}
use Rattle.fewest.specs.Fewest.{search_tests}
use Rattle.refusals.proofs.Numbers.{stopped, went-on}
use Rattle.jpeg_block.proofs.Places.{unless-status}
use Rattle.jpeg_block.proofs.search.search_room.Goals as goal

pub returns-in-Ok : goal.returns-in-Ok
unfolding search_tests
returns-in-Ok c = went-on (search_tests c.args.samples.now c.args.width c.args.height c.args.base.now) _ tt c.in-Ok.ensures (unless-status _ _ c.unless.ensures)

pub returns-in-Err : goal.returns-in-Err
unfolding search_tests
returns-in-Err c = stopped _ _ tt c.in-Err.refusal refl c.in-Err.ensures
