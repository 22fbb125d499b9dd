use mathlib.Core.Path.{ap, ◌∙◌}
use mathlib.Core.List.{List}
use Prim.Native.Nat.{ℕ, ◌*◌, ◌/◌, ◌%◌}
use lib.Seq.{paste}
use Rattle.forward.specs.Canonical.{coefficients}
use Rattle.plane.specs.Plane.{block_at, block_of}
use Rattle.plane.proofs.Coding.{part-coded}
use Rattle.plane.proofs.Plane.code_block.Goals as goal

pub returns : goal.returns
unfolding block_of
returns c =
    let k = c.args.k in
    let block = c.block_at-block.ensures ∙ (λ i. block_at c.args.self.samples.now c.args.self.width c.args.self.height (k % c.blocks_of-across.ensures.value i) (k / c.blocks_of-across.ensures.value i)) in
    part-coded _ c.args.quant.now c.args.out.now (64 * k) c.write_block.ensures
    ∙ ap (λ (b : List ℕ). paste c.args.out.now (64 * k) (coefficients b c.args.quant.now) 64) block
