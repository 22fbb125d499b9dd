-- Document 01, "The inverse blocks". A block is 64 numbers in natural order: index 8v + u for frequencies, 8y + x for samples.
-- "Columns first, then rows": a pass over each column, a pass over each row of what they give, and the clamp of each number.
use Rattle.std.specs.Prelude.{cond, List, [], ◌∷◌, ℕ, ◌+◌, ◌*◌, ◌/◌, ◌%◌, ltb, length, get_or, ℤ, pos}
use Rattle.std.specs.Int.{w64}
use Rattle.integers.specs.Linear.{listed}
use Rattle.lists.specs.Tab.{tab}
use Rattle.refusals.specs.Refusals.{Test, ◌unless◌, ◌of◌}
use Rattle.clamping.specs.Clamping.{sample_u8, sample12bit}
use Rattle.passes.specs.Passes.{Size, pass, column_pass, row_pass}

-- column u of a block, from top to bottom
unfoldable pub column_of : List ℤ → ℕ → List ℤ
column_of xs u = tab 8 (λ v. get_or xs (8 * v + u) (pos 0))

-- the eight columns after their pass
unfoldable pub columns : (List ℤ → List ℤ) → List ℤ → List (List ℤ)
columns column xs = tab 8 (λ u. column (column_of xs u))

-- row y of what is given by its columns, where d stands for a number that is not there
unfoldable pub row_at : {A : Type 0} → A → List (List A) → ℕ → List A
row_at d cols y = tab 8 (λ u. get_or (get_or cols u []) y d)

abbrev pub row_of : List (List ℤ) → ℕ → List ℤ
row_of cols y = row_at (pos 0) cols y

-- eight rows of numbers, by what their elements stand for, and column x of them
abbrev pub valued : {A : Type 0} → (List A → List ℤ) → List (List A) → List (List ℤ)
valued values rows = tab 8 (λ y. values (get_or rows y []))

abbrev pub column : {A : Type 0} → (List A → List ℤ) → List (List A) → ℕ → List ℤ
column values rows x = tab 8 (λ y. get_or (values (get_or rows y [])) x (pos 0))

-- n·n samples, row by row, of what is given by its columns: sample x of row y is the clamp of number x of the pass over row y. (What a place
-- gives is a sample or, for the counts, the number itself.)
unfoldable pub row_samples : {A : Type 0} → (List ℤ → List ℤ) → (ℤ → A) → ℕ → List (List ℤ) → List A
row_samples row clamp n cols = tab (n * n) (λ i. clamp (get_or (row (row_of cols (i / n))) (i % n) (pos 0)))

-- the block: columns first, then rows
unfoldable pub samples : {A : Type 0} → (List ℤ → List ℤ) → (List ℤ → List ℤ) → (ℤ → A) → ℕ → List ℤ → List A
samples column row clamp n xs = row_samples row clamp n (columns column xs)

-- the 8-bit block of a size
unfoldable pub block : Size → List ℤ → List ℕ
block z xs = samples (column_pass z) (row_pass z) sample_u8 z.side xs

-- the block with the rows from n on treated as zero
unfoldable pub first_rows : ℕ → List ℤ → List ℤ
first_rows n xs = tab 64 (λ i. cond (ltb (i / 8) n) (get_or xs i (pos 0)) (pos 0))

-- a list with d in the places ks, which a reduced size does not read
unfoldable pub without : {A : Type 0} → A → List ℕ → List A → List A
without d ks xs = tab (length xs) (λ k. cond (listed ks k) d (get_or xs k d))

-- "12-bit has no shortcut: shifts 12 and 17, one and two more for 4×4 and 2×2, scaled down at 64 bits, then `sample_12bit`"
unfoldable pub block12bit : Size → List ℤ → List ℕ
block12bit z xs = samples (pass w64 z.matrix (12 + z.extra)) (pass w64 z.matrix (17 + z.extra)) sample12bit z.side xs

-- "Refusing calls", transforms: 1, an input block not of its 64 places; 3, an output of the wrong length, here not of n
abbrev pub inverse_tests : ℕ → List ℤ → List ℕ → List Test
inverse_tests n xs out = 1 unless xs of 64 ∷ 3 unless out of n ∷ []
