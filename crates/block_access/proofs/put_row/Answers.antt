use native.Mathlib.Omega.{arith}
use mathlib.Core.Path.{ap, ◌∙◌}
use Rattle.block.proofs.Store.{pasted-more}
use Rattle.block_access.proofs.put_row.Goals as goal

pub loop-k-preserved : goal.loop-k-preserved
loop-k-preserved g c = pasted-more c.loop-k.invariant (omega arith) (omega arith) c.index-q-k.result (c.sample.ensures ∙ ap g.T.Sampled.clamp c.index-q-k.is)
