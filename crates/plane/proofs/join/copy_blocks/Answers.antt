use mathlib.Core.Path.{◌∙◌}
use native.Mathlib.Omega.{arith}
use Rattle.plane.proofs.Joining.{copied-none, copied-more, copied-all}
use Rattle.plane.proofs.join.copy_blocks.Goals as goal

pub loop-k-init : goal.loop-k-init
loop-k-init c = copied-none _ _ c.requires.out_len

pub loop-k-preserved : goal.loop-k-preserved
loop-k-preserved c = copied-more c.args.row.now c.loop-k.k c.loop-k.invariant (omega arith) (c.copy_from_slice-in-loop-k.ensures.after ∙ c.copy_from_slice.ensures.after)

pub returns : goal.returns
returns c = copied-all c.args.row.now c.loop-k.k c.loop-k.invariant (omega arith)
