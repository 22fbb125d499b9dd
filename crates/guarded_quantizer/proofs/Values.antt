-- The values of the transform of rows, then columns, as two loops read and write them.
-- Assumes nothing.
use Rattle.std.specs.Prelude.{◌≡◌, ℕ, ◌+◌, ◌*◌, ◌/◌, ◌%◌, ◌<◌, List, [], get_or}
use mathlib.Core.Path.{ap, ◌∙◌}
use native.Mathlib.Omega.{arith}
use lib.Ieee.{Float, nan}
use Rattle.lists.specs.Tab.{tab}
use Rattle.lists.proofs.Tab.{get_d-tab, tab-ext}
use Rattle.guarded_quantizer.specs.Transform.{fdct8}
use Rattle.guarded_quantizer.specs.Values.{row, column, fdct_value}

module _ (block : List ℕ) where
  pub column-of-rows : (u : ℕ) {rows : List (List Float)} {input : List Float} → rows ≡ tab 8 (λ y. fdct8 (row block y)) → input ≡ tab 8 (λ y. get_or (get_or rows y []) u nan) → input ≡ column block u
  unfolding column
  column-of-rows u {rows} {input} e h =
      h
      ∙ tab-ext 8 _ _ (λ y b. ap (λ (l : List Float). get_or l u nan) (ap (λ (r : List (List Float)). get_or r y []) e ∙ get_d-tab 8 (λ y. fdct8 (row block y)) [] y b))

  pub value-at : (u v : ℕ) {l : List Float} → u < 8 → l ≡ fdct8 (column block u) → get_or l v nan ≡ fdct_value block (8 * v + u)
  unfolding fdct_value
  value-at u v {l} b e =
      let q : u ≡ (8 * v + u) % 8 = omega arith in
      let r : v ≡ (8 * v + u) / 8 = omega arith in
      ap (λ (l : List Float). get_or l v nan) e ∙ (λ i. get_or (fdct8 (column block (q i))) (r i) nan)
