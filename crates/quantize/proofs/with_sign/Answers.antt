use Rattle.quantize.proofs.Halves.{negated-value, kept-value}
use Rattle.quantize.proofs.with_sign.Goals as goal

pub returns-then-scaled-lt0 : goal.returns-then-scaled-lt0
returns-then-scaled-lt0 c = negated-value c.requires c.ranges.scaled c.if-scaled-lt0.true

pub returns-else-scaled-lt0 : goal.returns-else-scaled-lt0
returns-else-scaled-lt0 c = kept-value c.requires c.ranges.scaled c.if-scaled-lt0.false
