-- Both counts of a 4×4 block, added up column by column, row after row.
-- Assumes nothing.
use mathlib.Core.Path.{◌≡◌, sym, ap, ◌∙◌}
use mathlib.Core.List.{List}
use Prim.Native.Nat.{ℕ, ◌+◌, ◌*◌, ◌≤◌, ◌<◌}
use native.Mathlib.Omega.{arith}
use lib.ListN.{length, get_or}
use lib.IntN.{ℤ, pos}
use Rattle.lists.specs.Tab.{tab}
use Rattle.lists.proofs.Tab.{length-tab, get_d-tab, get_d-every, tab-ext}
use Rattle.clamping.specs.Rule.{rule_u8}
use Rattle.clamping.specs.Counts.{counted, tally_one}
use Rattle.clamping.proofs.ByRule.{tally-most}
use Rattle.passes.specs.Passes.{four, row_pass}
use Rattle.passes.proofs.Steps.{four-rows, length-row}
use Rattle.block.specs.Block.{row_of, row_samples}
use Rattle.block.specs.Clamped.{itself}
use Rattle.block.proofs.Counts.{counted-most, counted-more, added, added-4, by-columns}

module _ (cols : List (List ℤ)) where
  -- row y before the clamp
  abbrev row : ℕ → List ℤ
  row y = row_pass four (row_of cols y)

  -- t holds the counts of the first y rows of each column
  pub record Columns (y : ℕ) (t : List ℕ) : Type 0 where
    pub within : y ≤ 4
    pub is : t ≡ tab 4 (λ x. counted tally_one (tab y (λ k. get_or (row k) x (pos 0))))

  pub columns-few : {y : ℕ} {t : List ℕ} → Columns y t → (x : ℕ) → get_or t x 0 ≤ y * 256
  columns-few {y} c x =
      rw c.is (get_d-every (λ (n : ℕ). n ≤ y * 256) 4 _ 0 (omega arith) (λ k b. omega (arith, counted-most tally_one 256 tally-most (tab y (λ i. get_or (row i) k (pos 0))), length-tab y (λ i. get_or (row i) k (pos 0)))) x)

  pub columns-more : {y : ℕ} {t new : List ℕ} {p : List ℤ} → Columns y t → y < 4 → p ≡ row y → new ≡ tab 4 (λ x. get_or t x 0 + tally_one (rule_u8 (get_or p x (pos 0)))) → Columns (y + 1) new
  columns-more {y} {t} {p = p} c b e f =
      let f' : ℕ → ℕ = λ x. counted tally_one (tab y (λ k. get_or (row k) x (pos 0))) in
      record {
        within = omega arith;
        is = f ∙ tab-ext 4 _ _ (λ x l. (λ i. (ap (λ (l : List ℕ). get_or l x 0) c.is ∙ get_d-tab 4 f' 0 x l) i + tally_one (rule_u8 (get_or (e i) x (pos 0)))) ∙ sym (counted-more tally_one (λ k. get_or (row k) x (pos 0)) y));
      }

  pub columns-all : {y : ℕ} {t : List ℕ} → Columns y t → 4 ≤ y → get_or t 0 0 + get_or t 1 0 + get_or t 2 0 + get_or t 3 0 ≡ counted tally_one (row_samples (row_pass four) itself 4 cols)
  unfolding row_samples four
  columns-all {y} {t} c b =
      let all : y ≡ 4 = omega (arith, c.within) in
      added-4 t (ap length c.is ∙ length-tab 4 _) ∙ ap added c.is ∙ ap (λ (m : ℕ). added (tab 4 (λ x. counted tally_one (tab m (λ k. get_or (row k) x (pos 0)))))) all
      ∙ by-columns tally_one 4 row 4 (λ y b. length-row four _ four-rows)
