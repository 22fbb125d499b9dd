use mathlib.Core.Path.{◌∙◌}
use native.Mathlib.Omega.{arith}
use Rattle.fewest.proofs.PlaneSums.{none, room, last-most, more, all}
use Rattle.fewest.proofs.totals.add_plane.Goals as goal

pub loop-k-init : goal.loop-k-init
loop-k-init c = none c.requires.all_value.0 c.requires.all_value.1

pub add_block-requires-clause-room : goal.add_block-requires-clause-room
add_block-requires-clause-room c =
    room c.loop-k.invariant c.requires.bytes (omega (arith, c.blocks-total.ensures.upper_bound))

pub overflow_add-last : goal.overflow_add-last
overflow_add-last c =
    record { fits = omega (arith, last-most c.loop-k.invariant, c.blocks-total.ensures.upper_bound, c.add_block.ensures.upper_bound) }

pub loop-k-preserved : goal.loop-k-preserved
loop-k-preserved c =
    let told = c.add_block.ensures in more c.loop-k.invariant (c.from-last.ensures ∙ told.value) told.errors_after told.counts_after

pub returns-clause-value : goal.returns-clause-value
returns-clause-value c = (all c.loop-k.invariant (omega (arith, c.blocks-total.ensures.value))).0

pub returns-clause-errors_after : goal.returns-clause-errors_after
returns-clause-errors_after c = (all c.loop-k.invariant (omega (arith, c.blocks-total.ensures.value))).1.0

pub returns-clause-counts_after : goal.returns-clause-counts_after
returns-clause-counts_after c = (all c.loop-k.invariant (omega (arith, c.blocks-total.ensures.value))).1.1
