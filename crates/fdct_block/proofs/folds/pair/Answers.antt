use Rattle.fdct_block.proofs.Narrow.{sum_fits, difference-fits, added, taken}
use Rattle.fdct_block.proofs.folds.pair.Goals as goal

pub overflow_sub-result : goal.overflow_sub-result
overflow_sub-result c = difference-fits c.ranges.a c.ranges.b c.requires.0 c.requires.1

pub returns-then-odd : goal.returns-then-odd
returns-then-odd c = let all = taken c.ranges.a c.ranges.b c.requires.0 c.requires.1 c.if-odd.true in record { value = all.0; result_bound = all.1 }

pub overflow_add-result : goal.overflow_add-result
overflow_add-result c = sum_fits c.ranges.a c.ranges.b c.requires.0 c.requires.1

pub returns : goal.returns
returns c = let all = added c.ranges.a c.ranges.b c.requires.0 c.requires.1 c.if-odd.false in record { value = all.0; result_bound = all.1 }
