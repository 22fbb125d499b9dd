use mathlib.Core.Path.{ap, ◌∙◌}
use native.Mathlib.Omega.{arith}
use borrow.Author.Rules.{rules}
use lib.ListN.{get_or}
use lib.IntN.{pos}
use mir.Syntax.{w64}
use mir.ValLaws.{to_z-of_z}
use Rattle.clamping.specs.Clamping.{sample12bit}
use Rattle.block.proofs.Store.{pasted-more}
use Rattle.idct_12bit.proofs.samples_12bit.put_row_small.Goals as goal

pub sample_small-requires : goal.sample_small-requires
sample_small-requires c = rw (to_z-of_z w64 (get_or c.args.q.now c.loop-k.k (pos 0)) (search rules)) (c.requires.at_most c.loop-k.k)

pub loop-k-preserved : goal.loop-k-preserved
loop-k-preserved c =
    pasted-more c.loop-k.invariant (omega arith) (omega arith) (pos 0) (c.sample_small.ensures ∙ ap sample12bit (to_z-of_z w64 (get_or c.args.q.now c.loop-k.k (pos 0)) (search rules)))
