use mir.Syntax.{w16}
use mir.ValLaws.{to_z-of_z}
use Rattle.jpeg_block.specs.Places.{handed_record}
use Rattle.jpeg_block.proofs.records.handed_record.Goals as goal

pub returns : goal.returns
unfolding handed_record
returns c = λ i. handed_record (to_z-of_z w16 c.args.dc c.ranges.dc i) c.args.ac.now c.args.divisors.now
