-- A loop over rows, each stored as n samples: what one turn adds, over the pass, the clamp and n.
-- Assumes nothing.
use mathlib.Core.Path.{◌≡◌, refl, sym, ap, ◌∙◌, subst}
use mathlib.Core.Bool.{Bool, true, false, cond}
use mathlib.Core.List.{List, [], map}
use Prim.Native.Nat.{ℕ, ◌+◌, ◌*◌, ◌/◌, ◌%◌, ◌^◌, ◌<◌, ◌≤◌}
use native.Mathlib.Nat.{mul-le-mul_right, add-mul, one-mul}
use native.Mathlib.Omega.{arith}
use borrow.Author.Tests.{lt-ltb}
use lib.Dec.{ltb}
use lib.Arith.{digits_div, digits_mod}
use lib.ListN.{length, get_or, replicate}
use lib.Seq.{paste}
use lib.IntN.{ℤ, pos}
use lib.Signed.{mag}
use mir.Syntax.{w32}
use mir.Val.{to_z, of_z}
use Rattle.integers.specs.Linear.{zero_at}
use Rattle.lists.specs.Tab.{tab}
use Rattle.lists.proofs.Tab.{Filled, none, filled, same, length-tab, get_d-tab, tab-ext, tab-get_d, map-get_d, filled-paste}
use Rattle.scaling.specs.Scaling.{descaled}
use Rattle.scaling.proofs.Rounding.{descaled-read}
use Rattle.clamping.specs.Clamping.{sample_u8}
use Rattle.passes.specs.Passes.{Size, dc, pass, column_pass, row_pass}
use Rattle.passes.proofs.Steps.{length-row, zero_row, full-row}
use Rattle.block.specs.Block.{columns, row_of, row_samples, samples, block, first_rows}

-- all rows of a block that is read whole
pub first-all : (xs : List ℤ) → length xs ≡ 64 → first_rows 8 xs ≡ xs
unfolding first_rows
first-all xs e =
    tab-ext 64 _ _ (λ i b. ap (λ (t : Bool). cond t (get_or xs i (pos 0)) (pos 0)) (lt-ltb (i / 8) 8 (omega arith))) ∙ tab-get_d (pos 0) xs 64 e

-- the same rows again
pub first-twice : (n : ℕ) (xs : List ℤ) → first_rows n (first_rows n xs) ≡ first_rows n xs
unfolding first_rows
first-twice n xs = tab-ext 64 _ _ (λ i b. ap (λ (x : ℤ). cond (ltb (i / 8) n) x (pos 0)) (get_d-tab 64 (λ i. cond (ltb (i / 8) n) (get_or xs i (pos 0)) (pos 0)) (pos 0) i b) ∙ twice (ltb (i / 8) n) (get_or xs i (pos 0)))
  where
    twice : (t : Bool) (x : ℤ) → cond t (cond t x (pos 0)) (pos 0) ≡ cond t x (pos 0)
    twice true x = refl
    twice false x = refl

-- there are eight columns
pub length-columns : (column : List ℤ → List ℤ) (xs : List ℤ) → length (columns column xs) ≡ 8
unfolding columns
length-columns column xs = length-tab 8 _

-- sample i of the block
abbrev sample_at : (List ℤ → List ℤ) → (ℤ → ℕ) → ℕ → List (List ℤ) → ℕ → ℕ
sample_at row clamp n cols i = clamp (get_or (row (row_of cols (i / n))) (i % n) (pos 0))

-- the first y rows are stored
pub record Stored (row : List ℤ → List ℤ) (clamp : ℤ → ℕ) (n : ℕ) (cols : List (List ℤ)) (y : ℕ) (out : List ℕ) : Type 0 where
  pub front : Filled (sample_at row clamp n cols) (n * n) (y * n) out

pub rows_none : {row : List ℤ → List ℤ} {clamp : ℤ → ℕ} {n : ℕ} {cols : List (List ℤ)} {out : List ℕ} → length out ≡ n * n → Stored row clamp n cols 0 out
rows_none {n = n} {out = out} e = record { front = same _ (n * n) 0 (0 * n) out (none _ (n * n) out e) (omega arith) }

-- row p of the columns, passed over as q, whose samples were stored
pub rows-turn : {row : List ℤ → List ℤ} {clamp : ℤ → ℕ} {n : ℕ} {cols : List (List ℤ)} {y : ℕ} {out : List ℕ} {p q : List ℤ} {m : ℕ} {left : List ℕ} → Stored row clamp n cols y out → y < n →
    p ≡ row_of cols y → q ≡ row p → length q ≡ n → m ≡ n → left ≡ paste out (y * n) (map clamp q) m → Stored row clamp n cols (y + 1) left
rows-turn {row = row} {clamp = clamp} {n = n} {cols = cols} {y = y} {out = out} {q = q} h b loaded made long whole e =
    let f = sample_at row clamp n cols in
    let next : y * n + n ≡ (y + 1) * n = sym (add-mul y 1 n ∙ ap (λ (m : ℕ). y * n + m) (one-mul n)) in
    let within : (y + 1) * n ≤ n * n = mul-le-mul_right n (omega arith) in
    let row-y = made ∙ ap row loaded in
    let run : map clamp q ≡ tab n (λ j. f (y * n + j)) =
    sym (map-get_d clamp (pos 0) q n long) ∙ tab-ext n _ _ (λ j c. (λ i. clamp (get_or (row-y i) j (pos 0))) ∙ (λ i. clamp (get_or (row (row_of cols (sym (digits_div y c) i))) (sym (digits_mod y c) i) (pos 0)))) in
    let stored = same f (n * n) (y * n + n) ((y + 1) * n) _ (filled-paste f (n * n) (y * n) out (map clamp q) n h.front (omega arith) run) next in
    record { front = subst (Filled f (n * n) ((y + 1) * n)) (sym (e ∙ ap (paste out (y * n) (map clamp q)) whole)) stored }

pub rows_all : {row : List ℤ → List ℤ} {clamp : ℤ → ℕ} {n : ℕ} {cols : List (List ℤ)} {y : ℕ} {out : List ℕ} → Stored row clamp n cols y out → n ≤ y → out ≡ row_samples row clamp n cols
unfolding row_samples
rows_all {n = n} h b = filled h.front (mul-le-mul_right n b)

-- a row of those that were made before the first was stored
pub row_made : (row : List ℤ → List ℤ) (cols : List (List ℤ)) (n : ℕ) {rs : List (List ℤ)} → rs ≡ tab n (λ y. row (row_of cols y)) → (y : ℕ) → y < n → get_or rs y [] ≡ row (row_of cols y)
row_made row cols n e y b = ap (λ (t : List (List ℤ)). get_or t y []) e ∙ get_d-tab n (λ y. row (row_of cols y)) [] y b

-- a row of an 8-bit block of a size, stored as long as it is: where the zero test gave t
module _ (z : Size) (side : length z.matrix ≡ z.side) (out : List ℕ) (at : ℕ) (p : List ℤ) {t : Bool} (e : t ≡ zero_at z.ac p) where
  stored : {q : List ℤ} {left : List ℕ} → q ≡ row_pass z p → left ≡ paste out at (map sample_u8 q) (length q) → left ≡ paste out at (map sample_u8 (row_pass z p)) z.side
  stored f h = h ∙ (λ i. paste out at (map sample_u8 (f i)) ((ap length f ∙ length-row z p side) i))

  pub stored-zero : {x : ℤ} {left : List ℕ} → t ≡ true → mag (dc p) < 2 ^ 31 → x ≡ descaled w32 (to_z w32 (of_z w32 (dc p))) 5 →
      left ≡ paste out at (map sample_u8 (replicate z.side (to_z w32 (of_z w32 x)))) (length (replicate z.side (to_z w32 (of_z w32 x)))) → left ≡ paste out at (map sample_u8 (row_pass z p)) z.side
  stored-zero h f g = stored (zero_row z p e h (descaled-read w32 5 (record { sfits = f }) g))

  pub stored-full : {q : List ℤ} {left : List ℕ} → t ≡ false → q ≡ pass w32 z.matrix (18 + z.extra) p → left ≡ paste out at (map sample_u8 q) (length q) →
      left ≡ paste out at (map sample_u8 (row_pass z p)) z.side
  stored-full h f = stored (full-row z p e h f)

-- the block: its rows of its columns
pub block_read : (z : Size) (xs : List ℤ) {cols : List (List ℤ)} {out : List ℕ} → cols ≡ columns (column_pass z) xs → out ≡ row_samples (row_pass z) sample_u8 z.side cols → out ≡ block z xs
unfolding block samples
block_read z xs e h = h ∙ ap (row_samples (row_pass z) sample_u8 z.side) e
