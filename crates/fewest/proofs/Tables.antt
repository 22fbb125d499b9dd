-- The tables at percents 1 to 200, one after the other: what each is, and the loop that makes them. Assumes nothing.
use mathlib.Core.Path.{◌≡◌, sym, ap, ◌∙◌}
use mathlib.Core.List.{List}
use Prim.Native.Nat.{ℕ, ◌+◌, ◌*◌, ◌/◌, ◌%◌, ◌≤◌, ◌<◌}
use native.Mathlib.Omega.{arith}
use lib.ListN.{length, get_or}
use Rattle.lists.specs.Grid.{grid}
use Rattle.lists.proofs.Tab.{length-tab, tab-ext, by-elements, Filled, none, same, all, filled-paste}
use Rattle.lists.proofs.Grid.{column-of, row_of, length-grid, grid-at}
use Rattle.lists.proofs.Parts.{lent, length-lent, lent_at, back, part-back}
use Rattle.percent.specs.Percent.{percent_divisor, percent_table}
use Rattle.fewest.specs.Blocks.{percent_tables, table_of}

-- the part of the tables that is lent is the table
pub lent-table : (tables : List ℕ) (p : ℕ) → 64 * p + 64 ≤ length tables → lent (64 * p) 64 tables ≡ table_of tables p
unfolding table_of
lent-table tables p b = by-elements 64 _ 0 (lent (64 * p) 64 tables) (length-lent (64 * p) 64 tables b) (λ n l. lent_at (64 * p) 64 tables 0 l)

pub table-long : (tables : List ℕ) (p : ℕ) → length (table_of tables p) ≡ 64
unfolding table_of
table-long tables p = length-tab 64 _

pub tables-long : (base : List ℕ) → length (percent_tables base) ≡ 12800
unfolding percent_tables
tables-long base = length-grid 0 64 200 (λ n p. percent_divisor (get_or base n 0) (p + 1))

-- table p is that of percent p + 1
pub table-percent : (base : List ℕ) (p : ℕ) → p < 200 → table_of (percent_tables base) p ≡ percent_table base (p + 1)
unfolding table_of percent_tables percent_table
table-percent base p h = tab-ext 64 _ _ (λ n b. grid-at 0 64 200 (λ n p. percent_divisor (get_or base n 0) (p + 1)) b h)

-- equal places, equal tables
pub table_same : (tables : List ℕ) (p q : ℕ) → ((n : ℕ) → n < 64 → get_or tables (64 * p + n) 0 ≡ get_or tables (64 * q + n) 0) → table_of tables p ≡ table_of tables q
unfolding table_of
table_same tables p q h = tab-ext 64 _ _ h

-- ---- the loop

module _ (base : List ℕ) where
  abbrev divisor_at : ℕ → ℕ
  divisor_at i = percent_divisor (get_or base (i % 64) 0) (i / 64 + 1)

  -- the first p tables are written
  abbrev pub Made : ℕ → List ℕ → Type 0
  Made p tables = Filled divisor_at 12800 (64 * p) tables

  pub made_none : (tables : List ℕ) → length tables ≡ 12800 → Made 0 tables
  made_none tables e = none divisor_at 12800 tables e

  pub made_more : {p : ℕ} {tables left : List ℕ} → Made p tables → p < 200 → left ≡ percent_table base (p + 1) → Made (p + 1) (back (64 * p) 64 tables left)
  unfolding percent_table
  made_more {p} {tables} {left} s b e =
      let long : length left ≡ 64 = ap length e ∙ length-tab 64 _ in
      rw (part-back tables left (64 * p) 64 long)
      (same divisor_at 12800 (64 * p + 64) (64 * (p + 1)) _
      (filled-paste divisor_at 12800 (64 * p) tables left 64 s (omega arith)
      (e ∙ tab-ext 64 _ _ (λ n l. λ i. percent_divisor (get_or base (sym (column-of 64 l p) i) 0) (sym (row_of 64 l p) i + 1))))
      (omega arith))

  pub made_all : {p : ℕ} {tables : List ℕ} → Made p tables → p ≡ 200 → tables ≡ percent_tables base
  unfolding percent_tables grid
  made_all {p} {tables} s e = all divisor_at 12800 (64 * p) tables s (omega arith) (omega arith)
