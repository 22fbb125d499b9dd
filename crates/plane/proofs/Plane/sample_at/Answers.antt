use Rattle.lists.specs.Grid.{at}
use Rattle.plane.specs.Plane.{sample_at}
use Rattle.plane.proofs.Plane.sample_at.Goals as goal

pub returns : goal.returns
unfolding sample_at
returns c = λ i. at 0 c.args.self.width c.args.self.samples.now (c.min-2.ensures i) (c.min.ensures i)
