use mathlib.Core.Path.{ap}
use mathlib.Core.List.{[], ◌∷◌}
use borrow.Author.Tests.{eqb-true}
use lib.Dec.{eqb}
use lib.ListN.{length}
use Rattle.refusals.specs.Refusals.{◌unless◌}
use Rattle.refusals.proofs.Refusals.{passed-all}
use Rattle.refusals.proofs.Numbers.{stopped}
use Rattle.fewest.specs.Fewest.{Fewest, search_tests, fewest_answer}
use Rattle.jpeg_block.proofs.Places.{second-passed}
use Rattle.jpeg_block.proofs.search.jpeg_block_fewest_coefficients.Goals as goal

pub put_fewest-requires : goal.put_fewest-requires
unfolding search_tests
put_fewest-requires c =
    let place = 3 unless eqb (length c.args.answer.now) 3 ∷ [] in
    eqb-true _ _ (passed-all place tt (second-passed (search_tests c.args.samples.now c.args.width c.args.height c.args.base.now) place tt c.in_default.ensures)).0

pub returns-in-Err-fewest_coefficients-clause-value : goal.returns-in-Err-fewest_coefficients-clause-value
unfolding search_tests fewest_answer
returns-in-Err-fewest_coefficients-clause-value c = stopped _ _ tt _ c.number-in-Err-fewest_coefficients.ensures (ap (λ (f : Fewest). f.status) c.in-Err-fewest_coefficients.ensures)
