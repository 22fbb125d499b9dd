-- The counts of document 02, card 4: sums over rows and over columns, both counts in one number, and what a call answers.
-- Assumes nothing.
use mathlib.Core.Path.{◌≡◌, refl, sym, ap, ap₂, ◌∙◌}
use mathlib.Core.List.{List, [], ◌∷◌, ◌++◌, map}
use Prim.Native.Nat.{ℕ, zero, suc, ◌+◌, ◌*◌, ◌/◌, ◌%◌, ◌≤◌, ◌<◌, zero-le}
use native.Mathlib.Nat.{zero-mul, suc-mul, add-mul, one-mul}
use native.Mathlib.Numerals.{add-one}
use native.Mathlib.Omega.{arith}
use lib.Arith.{digits_div, digits_mod}
use lib.ListN.{length, get_or}
use lib.IntN.{ℤ, pos}
use Rattle.lists.specs.Tab.{tab}
use Rattle.lists.proofs.Tab.{length-tab, tab-ext, tab-get_d, map-get_d, map-tab, tab-append}
use Rattle.std.specs.Prelude.{Ok}
use Rattle.refusals.specs.Refusals.{Test}
use Rattle.refusals.specs.Numbers.{told}
use Rattle.refusals.proofs.Refusals.{Passed, passed, wrote}
use Rattle.clamping.specs.Clamping.{sample_u8}
use Rattle.clamping.specs.Rule.{rule_u8}
use Rattle.clamping.specs.Counts.{raised_one, lowered_one, counted, tally_one}
use Rattle.clamping.specs.declared.Rule.{Rule}
use Rattle.clamping.proofs.ByRule.{raised-most, lowered-most}
use Rattle.passes.specs.Passes.{Size, column_pass, row_pass}
use Rattle.block.specs.Block.{columns, row_of, row_at, row_samples, samples, block}
use Rattle.block.specs.Clamped.{itself, unclamped, block_raised, block_lowered, counts_of, no_counts, clamped_answer, clamped_by}
use Rattle.block.specs.declared.Clamped.{Clamped}
use Rattle.block.proofs.Rows.{row_made, block_read}

-- the samples of a block are the clamp of the numbers that are counted
pub block-unclamped : (z : Size) (xs : List ℤ) → map sample_u8 (unclamped z xs) ≡ block z xs
unfolding block unclamped samples row_samples
block-unclamped z xs = map-tab sample_u8 _ (z.side * z.side)

-- ---- over a list of numbers

module _ (one : Rule → ℕ) where
  pub counted-append : (us vs : List ℤ) → counted one (us ++ vs) ≡ counted one us + counted one vs
  unfolding counted
  counted-append [] vs = omega arith
  counted-append (u ∷ us) vs = omega (arith, counted-append us vs)

  pub counted-most : (most : ℕ) → ((r : Rule) → one r ≤ most) → (vs : List ℤ) → counted one vs ≤ length vs * most
  unfolding counted
  counted-most most h [] = zero-le
  counted-most most h (v ∷ vs) = omega (arith, h (rule_u8 v), counted-most most h vs, suc-mul (length vs) most)

  -- one number more
  pub counted-more : (f : ℕ → ℤ) (k : ℕ) → counted one (tab (k + 1) f) ≡ counted one (tab k f) + one (rule_u8 (f k))
  unfolding tab counted
  counted-more f k = ap (λ (m : ℕ). counted one (tab m f)) (add-one k) ∙ counted-append (tab k f) (f k ∷ []) ∙ omega arith

-- both counts from their one number
pub counted-tally : (vs : List ℤ) → counted tally_one vs ≡ counted raised_one vs + 256 * counted lowered_one vs
unfolding counted
counted-tally [] = refl
counted-tally (v ∷ vs) = omega (arith, counted-tally vs)

pub tally-apart : (vs : List ℤ) {t : ℕ} → length vs ≤ 64 → t ≡ counted tally_one vs → (t % 256 ≡ counted raised_one vs) × (t / 256 ≡ counted lowered_one vs)
tally-apart vs {t} few e =
    let fact : t ≡ counted raised_one vs + 256 * counted lowered_one vs = e ∙ counted-tally vs in
    let least = counted-most raised_one 1 raised-most vs in
    (omega arith, omega arith)

-- ---- rows of n numbers, one after the other

unfoldable pub added : List ℕ → ℕ
added [] = 0
added (x ∷ xs) = x + added xs

added-append : (xs ys : List ℕ) → added (xs ++ ys) ≡ added xs + added ys
unfolding added
added-append [] ys = omega arith
added-append (x ∷ xs) ys = omega (arith, added-append xs ys)

added_more : (n : ℕ) (f : ℕ → ℕ) → added (tab (suc n) f) ≡ added (tab n f) + f n
unfolding added tab
added_more n f = added-append (tab n f) (f n ∷ []) ∙ omega arith

pub added_next : (n : ℕ) (f : ℕ → ℕ) → added (tab (n + 1) f) ≡ added (tab n f) + f n
added_next n f = ap (λ (k : ℕ). added (tab k f)) (add-one n) ∙ added_more n f

added-both : (n : ℕ) (f g : ℕ → ℕ) → added (tab n (λ x. f x + g x)) ≡ added (tab n f) + added (tab n g)
unfolding added tab
added-both zero f g = refl
added-both (suc n) f g = omega (arith, added_more n (λ x. f x + g x), added_more n f, added_more n g, added-both n f g)

added-map : (one : Rule → ℕ) (q : List ℤ) → added (map (λ v. one (rule_u8 v)) q) ≡ counted one q
unfolding added counted
added-map one [] = refl
added-map one (v ∷ q) = ap (λ (k : ℕ). one (rule_u8 v) + k) (added-map one q)

module _ (one : Rule → ℕ) (n : ℕ) (R : ℕ → List ℤ) where
  -- the numbers of the first m rows
  abbrev pub in_rows : ℕ → List ℤ
  in_rows m = tab (m * n) (λ i. get_or (R (i / n)) (i % n) (pos 0))

  -- column x of them
  abbrev pub in_column : ℕ → ℕ → List ℤ
  in_column m x = tab m (λ y. get_or (R y) x (pos 0))

  pub row_more : (m : ℕ) → length (R m) ≡ n → counted one (in_rows (m + 1)) ≡ counted one (in_rows m) + counted one (R m)
  row_more m l =
      let f : ℕ → ℤ = λ i. get_or (R (i / n)) (i % n) (pos 0) in
      let next : m * n + n ≡ (m + 1) * n = sym (add-mul m 1 n ∙ ap (λ (k : ℕ). m * n + k) (one-mul n)) in
      let row : tab n (λ j. f (m * n + j)) ≡ R m = tab-ext n _ _ (λ j b. λ i. get_or (R (digits_div m b i)) (digits_mod m b i) (pos 0)) ∙ tab-get_d (pos 0) (R m) n l in
      ap (λ (k : ℕ). counted one (tab k f)) (sym next) ∙ ap (counted one) (sym (tab-append f (m * n) n)) ∙ counted-append one (tab (m * n) f) (tab n (λ j. f (m * n + j)))
      ∙ ap (λ (q : List ℤ). counted one (tab (m * n) f) + counted one q) row

  -- the sum over the columns is that over the rows
  pub by-columns : (m : ℕ) → ((y : ℕ) → y < m → length (R y) ≡ n) → added (tab n (λ x. counted one (in_column m x))) ≡ counted one (in_rows m)
  unfolding added counted tab
  by-columns zero h = no_rows n ∙ ap (λ (k : ℕ). counted one (tab k (λ i. get_or (R (i / n)) (i % n) (pos 0)))) (sym (zero-mul n))
    where
      no_rows : (k : ℕ) → added (tab k (λ x. 0)) ≡ 0
      no_rows zero = refl
      no_rows (suc k) = added_more k (λ x. 0) ∙ omega (arith, no_rows k)
  by-columns (suc m) h =
      ap (λ (k : ℕ). added (tab n (λ x. counted one (in_column k x)))) (sym (add-one m))
      ∙ ap added (tab-ext n _ _ (λ x b. counted-more one (λ y. get_or (R y) x (pos 0)) m))
      ∙ added-both n (λ x. counted one (in_column m x)) (λ x. one (rule_u8 (get_or (R m) x (pos 0))))
      ∙ ap₂ ◌+◌ (by-columns m (λ y b. h y (omega arith))) (ap added (map-get_d (λ v. one (rule_u8 v)) (pos 0) (R m) n (h m (omega arith))) ∙ added-map one (R m))
      ∙ sym (row_more m (h m (omega arith))) ∙ ap (λ (k : ℕ). counted one (in_rows k)) (add-one m)

-- the sum of the code
pub added-4 : (t : List ℕ) → length t ≡ 4 → get_or t 0 0 + get_or t 1 0 + get_or t 2 0 + get_or t 3 0 ≡ added t
unfolding added tab
added-4 t l = omega arith ∙ ap added (tab-get_d 0 t 4 l)

-- the rows of an 8×8 block, each column of which was counted: what stands in column x of rows is `row_of` of them
pub columns-counted : (one : Rule → ℕ) (row : List ℤ → List ℤ) (cols : List (List ℤ)) {rs : List (List ℤ)} → rs ≡ tab 8 (λ y. row (row_of cols y)) → ((y : ℕ) → length (row (row_of cols y)) ≡ 8) →
    added (tab 8 (λ x. counted one (row_of rs x))) ≡ counted one (row_samples row itself 8 cols)
unfolding row_at row_samples
columns-counted one row cols {rs} e l =
    ap added (tab-ext 8 _ _ (λ x b. ap (counted one) (tab-ext 8 _ _ (λ y c. ap (λ (q : List ℤ). get_or q x (pos 0)) (row_made row cols 8 e y c)))))
    ∙ by-columns one 8 (λ y. row (row_of cols y)) 8 (λ y b. l y)

-- of a block, by its columns
pub counts-read : (z : Size) (xs : List ℤ) {cols : List (List ℤ)} {t : ℕ} → cols ≡ columns (column_pass z) xs → t ≡ counted tally_one (row_samples (row_pass z) itself z.side cols) → t ≡ counted tally_one (unclamped z xs)
unfolding unclamped samples
counts-read z xs e h = h ∙ ap (λ (c : List (List ℤ)). counted tally_one (row_samples (row_pass z) itself z.side c)) e

-- both, of a block
pub columns-made : (z : Size) (xs : List ℤ) {cols : List (List ℤ)} {t : ℕ} {out : List ℕ} → cols ≡ columns (column_pass z) xs →
    (t ≡ counted tally_one (row_samples (row_pass z) itself z.side cols)) × (out ≡ row_samples (row_pass z) sample_u8 z.side cols) → (t ≡ counted tally_one (unclamped z xs)) × (out ≡ block z xs)
columns-made z xs e f = (counts-read z xs e f.0, block_read z xs e f.1)

pub length-unclamped : (z : Size) (xs : List ℤ) → length (unclamped z xs) ≡ z.side * z.side
unfolding unclamped samples row_samples
length-unclamped z xs = length-tab (z.side * z.side) _

-- no count is more than the samples
pub raised-few : (z : Size) (xs : List ℤ) → block_raised z xs ≤ z.side * z.side
unfolding block_raised
raised-few z xs = omega (arith, counted-most raised_one 1 raised-most (unclamped z xs), length-unclamped z xs)

pub lowered-few : (z : Size) (xs : List ℤ) → block_lowered z xs ≤ z.side * z.side
unfolding block_lowered
lowered-few z xs = omega (arith, counted-most lowered_one 1 lowered-most (unclamped z xs), length-unclamped z xs)

-- ---- what a call answers

-- the counts by t, the number that has both
pub tally-answered : (vs : List ℤ) {t : ℕ} {r : Clamped} → length vs ≤ 64 → t ≡ counted tally_one vs → r ≡ clamped_by t → r ≡ counts_of vs
unfolding counts_of
tally-answered vs few e f = let apart = tally-apart vs few e in f ∙ (λ i. record { raised = apart.0 i; lowered = apart.1 i })

-- those of a block, and of one by its columns
module _ (z : Size) (xs : List ℤ) (few : z.side * z.side ≤ 64) {t : ℕ} {r : Clamped} (answer : r ≡ clamped_by t) where
  pub block-answered : t ≡ counted tally_one (unclamped z xs) → r ≡ record { raised = block_raised z xs; lowered = block_lowered z xs }
  unfolding block_raised block_lowered counts_of
  block-answered e = tally-answered (unclamped z xs) (omega (arith, length-unclamped z xs, few)) e answer

  -- where every test passes
  pub entry-answered : (ts : List Test) → Passed ts → t ≡ counted tally_one (unclamped z xs) → told no_counts (Ok r) ≡ clamped_answer ts (block_raised z xs) (block_lowered z xs)
  entry-answered ts h e =
      let s = passed ts h in
      λ i. record { status = s i; value = wrote (record { raised = block_raised z xs; lowered = block_lowered z xs }) no_counts (sym s) (block-answered e) i }
