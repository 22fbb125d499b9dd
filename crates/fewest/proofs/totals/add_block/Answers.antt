use mathlib.Core.Path.{◌≡◌, ap, ◌∙◌}
use mathlib.Core.List.{List}
use Prim.Native.Nat.{ℕ, ◌+◌, ◌*◌, ◌/◌, ◌%◌, ◌≤◌, ◌<◌}
use native.Mathlib.Omega.{arith}
use lib.ListN.{length}
use Rattle.lists.proofs.Grid.{placed}
use Rattle.percent.specs.Nonzeros.{nonzeros}
use Rattle.plane.specs.Plane.{blocks}
use Rattle.fewest.specs.Blocks.{coded_sums}
use Rattle.fewest.proofs.Tables.{lent-table}
use Rattle.fewest.proofs.Growing.{grown-ext}
use Rattle.fewest.proofs.Trials.{count-is, trial-count, trial-error}
use Rattle.fewest.proofs.totals.add_block.Goals as goal

-- the block begins in the plane
begins : (n x : ℕ) → x < blocks n → 8 * x < n
unfolding blocks
begins n x h = omega arith

inside : {k w h across : ℕ} → k < blocks w * blocks h → across ≡ blocks w → (8 * (k % across) < w) × (8 * (k / across) < h)
inside {k} {w} {h} l e = let i = placed (blocks w) (blocks h) k l in (begins _ _ (rw e i.0), begins _ _ (rw e i.1.0))

pub overflow_sub-plane : goal.overflow_sub-plane
overflow_sub-plane c = omega (arith, (inside c.requires.k_bound.0 c.blocks_of-across.ensures.value).0)

pub overflow_mul-y : goal.overflow_mul-y
overflow_mul-y c = record { fits = omega (arith, (inside c.requires.k_bound.0 c.blocks_of-across.ensures.value).1, c.args.plane.sized.h-most) }

pub overflow_sub-plane-2 : goal.overflow_sub-plane-2
overflow_sub-plane-2 c = omega (arith, (inside c.requires.k_bound.0 c.blocks_of-across.ensures.value).1)

pub returns-clause-value : goal.returns-clause-value
returns-clause-value c =
    let tables : List ℕ = c.args.tables.now in
    let last : 64 * 199 + 64 ≤ length tables = omega arith in
    c.count_of.ensures.value ∙ ap (λ (quant : List ℕ). nonzeros (coded_sums c.scaled_sums.result quant)) (lent-table tables 199 last)
    ∙ count-is _ _ _ _ c.blocks_of-across.ensures.value c.block_at-samples.ensures c.scaled_sums.ensures.value _

pub returns-clause-errors_after : goal.returns-clause-errors_after
returns-clause-errors_after c =
    c.add_trials.ensures.errors_after
    ∙ grown-ext _ _ _ _ (λ p. trial-error _ _ _ _ c.blocks_of-across.ensures.value c.block_at-samples.ensures c.scaled_sums.ensures.value _ _ _ (omega (arith, c.min.ensures)) (omega (arith, c.min-2.ensures)))

pub returns-clause-counts_after : goal.returns-clause-counts_after
returns-clause-counts_after c =
    c.add_trials.ensures.counts_after
    ∙ grown-ext _ _ _ _ (λ p. trial-count _ _ _ _ c.blocks_of-across.ensures.value c.block_at-samples.ensures c.scaled_sums.ensures.value _ _ _)
