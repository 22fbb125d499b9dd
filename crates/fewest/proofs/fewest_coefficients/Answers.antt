use mathlib.Core.Path.{refl, sym}
use native.Mathlib.Omega.{arith}
use Rattle.fewest.specs.Blocks.{at_percent}
use Rattle.fewest.proofs.Growing.{count-in, none-tried}
use Rattle.fewest.proofs.Answers.{ready, none-good, some_good, last-least}
use Rattle.fewest.proofs.fewest_coefficients.Goals as goal

pub invariant_of-plane : goal.invariant_of-plane
invariant_of-plane c = record { sized = (ready _ _ _ _ (sym c.in_ok-search_status.ensures)).0 }

pub add_plane-last-requires-clause-bytes : goal.add_plane-last-requires-clause-bytes
add_plane-last-requires-clause-bytes c = λ i. omega (arith, c.type_inv.samples i)

pub add_plane-last-requires-clause-all_value : goal.add_plane-last-requires-clause-all_value
add_plane-last-requires-clause-all_value c = none-tried

-- the count at percent 200 is taken from one that is no less
pub overflow_sub-result-in-Some : goal.overflow_sub-result-in-Some
unfolding at_percent
overflow_sub-result-in-Some c =
    let n = c.trials_of-n.ensures in
    let best = c.in-Some.ensures in
    rw (← count-in) (last-least c.args.samples.now _ _ c.args.base.now _ c.args.trials n.value c.percent_tables-tables.ensures c.add_plane-last.ensures.errors_after c.add_plane-last.ensures.counts_after c.add_plane-last.ensures.value best.value c.in-Some.p best.bounds.0 best.bounds.1)

pub returns-in-Some : goal.returns-in-Some
unfolding at_percent
returns-in-Some c =
    let n = c.trials_of-n.ensures in
    let best = c.in-Some.ensures in
    rw (← count-in) (some_good c.args.samples.now _ _ c.args.base.now _ c.args.trials n.value c.percent_tables-tables.ensures c.add_plane-last.ensures.errors_after c.add_plane-last.ensures.counts_after c.add_plane-last.ensures.value best.value c.in_ok-search_status.ensures c.in-Some.p best.bounds.0 best.bounds.1 refl)

pub returns-in-None : goal.returns-in-None
returns-in-None c =
    let n = c.trials_of-n.ensures in
    none-good c.args.samples.now _ _ c.args.base.now _ c.args.trials n.value c.percent_tables-tables.ensures c.add_plane-last.ensures.errors_after c.add_plane-last.ensures.counts_after c.add_plane-last.ensures.value c.in-None.ensures.value c.in_ok-search_status.ensures refl
