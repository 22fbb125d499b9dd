use mir.Facts.{to_z-of_z}
use Rattle.clamping.proofs.ByRule.{rule-raised, rule-lowered, rule-within}
use Rattle.clamping.proofs.rule_of.Goals as goal

pub returns-then-sum-lt0 : goal.returns-then-sum-lt0
returns-then-sum-lt0 c = rule-raised 255 _ (rw (to_z-of_z c.ranges.sum) at c.if-sum-lt0.true)

pub returns-then-sum-gt255 : goal.returns-then-sum-gt255
returns-then-sum-gt255 c = rule-lowered 255 _ (rw (to_z-of_z c.ranges.sum) at c.if-sum-gt255.true)

pub returns-else-sum-gt255 : goal.returns-else-sum-gt255
returns-else-sum-gt255 c = rule-within 255 _ (rw (to_z-of_z c.ranges.sum) at c.if-sum-lt0.false) (rw (to_z-of_z c.ranges.sum) at c.if-sum-gt255.false)
