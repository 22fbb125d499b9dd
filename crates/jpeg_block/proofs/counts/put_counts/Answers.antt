use Rattle.jpeg_block.proofs.Counted.{two-left, none_left}
use Rattle.jpeg_block.proofs.counts.put_counts.Goals as goal

pub returns-then-counts-eq2 : goal.returns-then-counts-eq2
returns-then-counts-eq2 c = two-left _ _ _ c.if-counts-eq2.true

pub returns-else-counts-eq2 : goal.returns-else-counts-eq2
returns-else-counts-eq2 c = none_left _ _ _ c.if-counts-eq2.false
