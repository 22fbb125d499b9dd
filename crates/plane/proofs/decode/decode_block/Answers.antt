use mathlib.Core.Path.{ap, ◌∙◌}
use mathlib.Core.List.{List}
use lib.ListN.{length}
use lib.IntN.{ℤ}
use Rattle.lists.proofs.Tab.{length-tab}
use Rattle.passes.specs.Passes.{eight, four, two}
use Rattle.clamping.specs.Counts.{counted, tally_one}
use Rattle.block.specs.Block.{block}
use Rattle.block.specs.Clamped.{unclamped}
use Rattle.plane.specs.Scale.{fitted, block_samples}
use Rattle.plane.specs.Counts.{block_numbers}
use Rattle.plane.proofs.decode.decode_block.Goals as goal

pub write_i32-requires : goal.write_i32-requires
unfolding fitted eight
write_i32-requires c = (ap length c.products_i32.ensures ∙ length-tab 64 _, rw c.in-Full.is at c.requires.block_len)

pub returns-in-Full-clause-value : goal.returns-in-Full-clause-value
unfolding block_numbers fitted
returns-in-Full-clause-value c = rw c.in-Full.is (c.write_i32.ensures.value ∙ ap (λ (xs : List ℤ). counted tally_one (unclamped eight xs)) c.products_i32.ensures)

pub returns-in-Full-clause-block_after : goal.returns-in-Full-clause-block_after
unfolding block_samples fitted
returns-in-Full-clause-block_after c = rw c.in-Full.is (c.write_i32.ensures.output_after ∙ ap (block eight) c.products_i32.ensures)

pub write_4x4-requires : goal.write_4x4-requires
unfolding fitted four
write_4x4-requires c = (ap length c.products_i16.ensures ∙ length-tab 64 _, rw c.in-Half.is at c.requires.block_len)

pub returns-in-Half-clause-value : goal.returns-in-Half-clause-value
unfolding block_numbers fitted
returns-in-Half-clause-value c = rw c.in-Half.is (c.write_4x4.ensures.value ∙ ap (λ (xs : List ℤ). counted tally_one (unclamped four xs)) c.products_i16.ensures)

pub returns-in-Half-clause-block_after : goal.returns-in-Half-clause-block_after
unfolding block_samples fitted
returns-in-Half-clause-block_after c = rw c.in-Half.is (c.write_4x4.ensures.output_after ∙ ap (block four) c.products_i16.ensures)

pub write_2x2-requires : goal.write_2x2-requires
unfolding fitted two
write_2x2-requires c = (ap length c.products_i16-in-Quarter.ensures ∙ length-tab 64 _, rw c.in-Quarter.is at c.requires.block_len)

pub returns-in-Quarter-clause-value : goal.returns-in-Quarter-clause-value
unfolding block_numbers fitted
returns-in-Quarter-clause-value c = rw c.in-Quarter.is (c.write_2x2.ensures.value ∙ ap (λ (xs : List ℤ). counted tally_one (unclamped two xs)) c.products_i16-in-Quarter.ensures)

pub returns-in-Quarter-clause-block_after : goal.returns-in-Quarter-clause-block_after
unfolding block_samples fitted
returns-in-Quarter-clause-block_after c = rw c.in-Quarter.is (c.write_2x2.ensures.output_after ∙ ap (block two) c.products_i16-in-Quarter.ensures)
