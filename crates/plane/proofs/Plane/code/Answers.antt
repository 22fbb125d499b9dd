use mathlib.Core.Path.{ap, ◌∙◌}
use mathlib.Core.List.{List}
use Prim.Native.Nat.{ℕ, ◌*◌}
use native.Mathlib.Omega.{arith}
use lib.Seq.{paste}
use Rattle.forward.specs.Canonical.{coefficients}
use Rattle.plane.specs.Plane.{block_of}
use Rattle.plane.proofs.Coding.{coded_none, coded-more, coded-all}
use Rattle.plane.proofs.Plane.code.Goals as goal

pub loop-k-init : goal.loop-k-init
loop-k-init c = coded_none _ _ _ _ _ c.requires.1

pub loop-k-preserved : goal.loop-k-preserved
loop-k-preserved c =
    let s = c.args.self in
    coded-more _ _ _ _ c.loop-k.invariant (omega (arith, c.blocks-n.ensures.value))
    (c.code_block.ensures ∙ ap (λ (quant : List ℕ). paste c.loop-k.out (64 * c.loop-k.k) (coefficients (block_of s.samples.now s.width s.height c.loop-k.k) quant) 64) c.widen-wider.ensures)

pub returns : goal.returns
returns c = coded-all _ _ _ _ c.loop-k.invariant (omega (arith, c.blocks-n.ensures.value)) (omega (arith, c.blocks-n.ensures.value))
