use mathlib.Core.Path.{◌≡◌, ap, ◌∙◌}
use Prim.Native.Nat.{ℕ}
use native.Mathlib.Omega.{arith}
use borrow.Author.Rules.{rules}
use lib.ListN.{get_or}
use lib.IntN.{pos, ◌*ℤ◌}
use Rattle.forward.specs.Sum.{sum_to}
use Rattle.fdct_block.proofs.Terms.{no-terms, next_fits, next-term}
use Rattle.fdct_block.proofs.sums.row_sum.Goals as goal

-- what a call of `product` gave
read : (c : goal.After-product-s) → c.product-s.result ≡ get_or c.args.f.now c.loop-k.k (pos 0) *ℤ get_or c.args.row.now c.loop-k.k (pos 0)
read c = search rules

pub overflow_add-s : goal.overflow_add-s
overflow_add-s c = next_fits _ _ (omega arith) _ _ c.loop-k.invariant (read c) c.product-s.ensures.result_bound

pub loop-k-preserved : goal.loop-k-preserved
loop-k-preserved c = next-term _ _ (omega arith) _ _ c.loop-k.invariant (read c) c.product-s.ensures.result_bound

pub returns : goal.returns
returns c =
    let e : c.loop-k.k ≡ 16 = omega arith in
    c.loop-k.invariant.0 ∙ ap (λ (j : ℕ). sum_to j (λ k. get_or c.args.f.now k (pos 0) *ℤ get_or c.args.row.now k (pos 0))) e

pub loop-k-init : goal.loop-k-init
loop-k-init c = no-terms _
