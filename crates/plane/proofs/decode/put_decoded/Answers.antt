use Rattle.block.proofs.Counts.{tally-answered}
use Rattle.plane.proofs.Counts.{few-numbers}
use Rattle.plane.proofs.Scales.{cropping}
use Rattle.plane.proofs.decode.put_decoded.Goals as goal

pub returns-clause-value : goal.returns-clause-value
returns-clause-value c = tally-answered _ (few-numbers (cropping c.args.scale) _ _) c.decode_block-tally.ensures.value c.clamped.ensures
