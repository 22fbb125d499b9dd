use mathlib.Core.Path.{◌≡◌, refl, ◌∙◌}
use mathlib.Core.List.{List}
use Prim.Native.Nat.{ℕ, ◌^◌, ◌≤◌}
use native.Mathlib.Omega.{arith}
use lib.ListN.{get_or}
use lib.IntN.{ℤ, pos, nat_abs}
use mir.Syntax.{w16, w64}
use mir.Val.{to_z, of_z}
use mir.ValLaws.{to_z-of_z}
use Rattle.integers.proofs.Bound.{small-fits}
use Rattle.lists.proofs.Tab.{none, next, filled}
use Rattle.quantize.specs.Quantize.{coefficient}
use Rattle.fewest.specs.Blocks.{coded_sums}
use Rattle.fewest.proofs.block_trial.Summed.quantized.Goals as goal

-- the sum at its place
read : (sums : List ℤ) (n : ℕ) → ((k : ℕ) → nat_abs (get_or sums k (pos 0)) ≤ 2 ^ 46) → to_z w64 (of_z w64 (get_or sums n (pos 0))) ≡ get_or sums n (pos 0)
read sums n h = to_z-of_z w64 _ (small-fits w64 _ (omega (arith, h n)))

pub loop-n-init : goal.loop-n-init
loop-n-init c = none _ 64 _ refl

pub loop-n-preserved : goal.loop-n-preserved
loop-n-preserved c =
    let q = c.quantize in
    let s = c.args.self.now in
    let value = to_z-of_z w16 q.result (small-fits w16 q.result q.ensures.result_bound) ∙ q.ensures.value in
    next c.loop-n.invariant (omega arith) (value ∙ (λ i. coefficient (read s.sums c.loop-n.n s.small i) (c.from.ensures i)))

pub returns : goal.returns
unfolding coded_sums
returns c = filled c.loop-n.invariant (omega arith)
