-- A block of which DC alone is not zero: at every size one number stands in each place, `level` of DC.
-- Assumes nothing.
use mathlib.Core.Path.{◌≡◌, refl, sym, ap, ap₂, ◌∙◌}
use mathlib.Core.Bool.{Bool, true, false, cond, ◌&&◌}
use mathlib.Core.List.{List, [], ◌∷◌, map}
use Prim.Native.Nat.{ℕ, zero, suc, ◌+◌, ◌*◌, ◌/◌, ◌%◌, ◌^◌, ◌≤◌, ◌<◌}
use native.Mathlib.Decide.{dec_lt}
use native.Mathlib.Nat.{zero-mul, suc-mul}
use native.Mathlib.Numerals.{add-one}
use native.Mathlib.Omega.{arith}
use borrow.Author.Tests.{ltb-true, lt-ltb}
use lib.Bits.{bit_or}
use lib.Dec.{T, eqb, ltb, eqb-suc-zero, eqb→eq}
use lib.ListN.{get_or, take, drop, replicate, get_or-replicate, get_or-eq_default}
use lib.Seq.{get_or-take, get_or-drop}
use lib.IntN.{ℤ, pos, nat_abs, ◌*ℤ◌}
use lib.Signed.{mag}
use mir.Syntax.{Width, w32}
use mir.Val.{SFits, Fits, to_z, of_z}
use Rattle.std.proofs.Math.Facts.{of_z-to_z, Fits-or, Fits-of_z, sfits_to_z}
use mir.ValLaws.{to_z-of_z}
use Rattle.integers.specs.Wrap.{wrap, modulo}
use Rattle.integers.specs.Linear.{listed, zero_at}
use Rattle.integers.proofs.Agree.{zero-size}
use Rattle.integers.proofs.ZeroTest.{or-eqb, zero_bits}
use Rattle.lists.specs.Tab.{tab}
use Rattle.lists.proofs.Tab.{length-tab, get_d-tab, tab-ext, map-tab}
use Rattle.lists.proofs.Grid.{placed}
use Rattle.lists.proofs.Every.{every-yes, every-at}
use Rattle.scaling.specs.Scaling.{descaled}
use Rattle.clamping.specs.Clamping.{sample_u8}
use Rattle.clamping.specs.Rule.{rule_u8}
use Rattle.clamping.specs.Counts.{counted, tally_one}
use Rattle.clamping.specs.declared.Rule.{Rule}
use Rattle.passes.specs.Passes.{Size, dc, column_pass, row_pass}
use Rattle.passes.proofs.Steps.{zero-column, zero_row}
use Rattle.block.specs.Block.{column_of, columns, row_of, row_at, row_samples, samples, block, first_rows}
use Rattle.block.specs.Clamped.{unclamped}
use Rattle.block.specs.Level.{level, is_zero, zeros}
use Rattle.block.proofs.Counts.{block-unclamped, counted-more}

-- the entries besides the first are zero
abbrev pub Alone : List ℤ → Type 0
Alone p = (k : ℕ) → get_or p (suc k) (pos 0) ≡ pos 0

-- what the test of some entries says
is-zero : (x : ℤ) → T (is_zero x) → x ≡ pos 0
is-zero x t = zero-size x (eqb→eq (nat_abs x) 0 t)

pub zeros-yes : (xs : List ℤ) {t : Bool} → t ≡ zeros xs → t ≡ true → (k : ℕ) → get_or xs k (pos 0) ≡ pos 0
zeros-yes xs e h = every-at (every-yes is_zero is-zero xs e h) (pos 0) refl

-- both together by `|` are zero where each is
pub or-zero : (w : Width) {a b : ℤ} → SFits w a → SFits w b → is_zero (to_z w (bit_or (of_z w a) (of_z w b))) ≡ (is_zero a && is_zero b)
or-zero w {a} {b} f g =
    let whole : Fits w (bit_or (of_z w a) (of_z w b)) = Fits-or (Fits-of_z {w = w} {z = a} f) (Fits-of_z {w = w} {z = b} g) in
    sym (zero_bits w (to_z w (bit_or (of_z w a) (of_z w b))) (sfits_to_z whole).sfits) ∙ ap (λ (n : ℕ). eqb n 0) (of_z-to_z whole) ∙ or-eqb (of_z w a) (of_z w b) ∙ ap₂ ◌&&◌ (zero_bits w a f.sfits) (zero_bits w b g.sfits)

zeros-after : (ks : List ℕ) → listed ks 0 ≡ false → (p : List ℤ) → Alone p → zero_at ks p ≡ true
unfolding zero_at listed
zeros-after [] d p h = refl
zeros-after (zero ∷ ks) d p h = let e : ◌≡◌ {A = ℕ} 0 1 = cc in absurd (omega arith)
zeros-after (suc k ∷ ks) d p h = rw (h k) (zeros-after ks (rw (eqb-suc-zero k) at d) p h)

-- a column of the block, and each number of a row of what the columns give
column-alone : (xs : List ℤ) → Alone xs → (u : ℕ) → Alone (column_of xs u)
unfolding column_of
column-alone xs h u k = go (dec_lt (suc k) 8)
  where
    go : Dec (suc k < 8) → get_or (column_of xs u) (suc k) (pos 0) ≡ pos 0
    go (yes b) = get_d-tab 8 (λ v. get_or xs (8 * v + u) (pos 0)) (pos 0) (suc k) b ∙ ap (λ (i : ℕ). get_or xs i (pos 0)) (omega arith) ∙ h (8 * k + 7 + u)
    go (no b) = get_or-eq_default (column_of xs u) (pos 0) (omega (arith, length-tab 8 (λ v. get_or xs (8 * v + u) (pos 0))))

module _ (z : Size) (d : listed z.ac 0 ≡ false) (xs : List ℤ) (h : Alone xs) where
  -- what column u gives in each place
  abbrev number : ℕ → ℤ
  number u = wrap w32 (pos 4 *ℤ get_or xs u (pos 0))

  column-level : (u : ℕ) → column_pass z (column_of xs u) ≡ replicate z.side (number u)
  unfolding column_of
  column-level u =
      let first : dc (column_of xs u) ≡ get_or xs u (pos 0) = get_d-tab 8 (λ v. get_or xs (8 * v + u) (pos 0)) (pos 0) 0 (omega arith) ∙ ap (λ (i : ℕ). get_or xs i (pos 0)) (omega arith) in
      sym (zero-column z (column_of xs u) (sym (zeros-after z.ac d (column_of xs u) (column-alone xs h u))) refl (ap (λ (x : ℤ). wrap w32 (pos 4 *ℤ x)) (sym first)))

  abbrev row_here : ℕ → List ℤ
  row_here y = row_of (columns (column_pass z) xs) y

  row_number : (y : ℕ) → y < z.side → (u : ℕ) → u < 8 → get_or (row_here y) u (pos 0) ≡ number u
  unfolding row_at columns
  row_number y b u c =
      get_d-tab 8 _ (pos 0) u c ∙ ap (λ (q : List ℤ). get_or q y (pos 0)) (get_d-tab 8 _ [] u c ∙ column-level u) ∙ get_or-replicate z.side y (number u) (pos 0) b

  row-alone : (y : ℕ) → y < z.side → Alone (row_here y)
  unfolding row_at wrap modulo
  row-alone y b k = go (dec_lt (suc k) 8)
    where
      go : Dec (suc k < 8) → get_or (row_here y) (suc k) (pos 0) ≡ pos 0
      go (yes c) = row_number y b (suc k) c ∙ ap (λ (x : ℤ). wrap w32 (pos 4 *ℤ x)) (h k)
      go (no c) = get_or-eq_default (row_here y) (pos 0) (omega (arith, length-tab 8 (λ u. get_or (get_or (columns (column_pass z) xs) u []) y (pos 0))))

  row-level : (y : ℕ) → y < z.side → row_pass z (row_here y) ≡ replicate z.side (level (get_or xs 0 (pos 0)))
  unfolding level
  row-level y b =
      sym (zero_row z (row_here y) (sym (zeros-after z.ac d (row_here y) (row-alone y b))) refl (ap (λ (x : ℤ). descaled w32 x 5) (sym (row_number y b 0 (omega arith)))))

  -- the numbers before the clamp
  pub level-unclamped : unclamped z xs ≡ tab (z.side * z.side) (λ i. level (get_or xs 0 (pos 0)))
  unfolding unclamped samples row_samples
  level-unclamped =
      tab-ext (z.side * z.side) _ _
      (λ i b. let p = placed z.side z.side i b in ap (λ (q : List ℤ). get_or q (i % z.side) (pos 0)) (row-level (i / z.side) p.1.0) ∙ get_or-replicate z.side (i % z.side) _ (pos 0) p.0)

  pub level-block : block z xs ≡ tab (z.side * z.side) (λ i. sample_u8 (level (get_or xs 0 (pos 0))))
  level-block = sym (block-unclamped z xs) ∙ ap (map sample_u8) level-unclamped ∙ map-tab sample_u8 _ (z.side * z.side)

-- as many of one number
pub counted_same : (one : Rule → ℕ) (v : ℤ) (n : ℕ) → counted one (tab n (λ i. v)) ≡ n * one (rule_u8 v)
unfolding tab counted
counted_same one v zero = sym (zero-mul (one (rule_u8 v)))
counted_same one v (suc n) = ap (λ (m : ℕ). counted one (tab m (λ i. v))) (sym (add-one n)) ∙ counted-more one (λ i. v) n ∙ omega (arith, counted_same one v n, suc-mul n (one (rule_u8 v)))

-- the first r rows, the others counting as zero, where the test of the m numbers after the first said yes
pub rows-alone : (r m : ℕ) (xs : List ℤ) {t : Bool} → 8 * r ≤ m + 1 → t ≡ zeros (take m (drop 1 xs)) → t ≡ true → Alone (first_rows r xs)
unfolding first_rows
rows-alone r m xs b e y k = go (dec_lt (suc k) 64)
  where
    read : Dec (k < m) → ltb (suc k / 8) r ≡ true → get_or xs (suc k) (pos 0) ≡ pos 0
    read (yes c) l = ap (λ (i : ℕ). get_or xs i (pos 0)) (omega arith) ∙ sym (get_or-take m (drop 1 xs) k (pos 0) c ∙ get_or-drop 1 xs k (pos 0)) ∙ zeros-yes (take m (drop 1 xs)) e y k
    read (no c) l = absurd (omega (arith, ltb-true (suc k / 8) r l))

    at : (l : Bool) → ltb (suc k / 8) r ≡ l → cond l (get_or xs (suc k) (pos 0)) (pos 0) ≡ pos 0
    at true l = read (dec_lt k m) l
    at false l = refl

    go : Dec (suc k < 64) → get_or (first_rows r xs) (suc k) (pos 0) ≡ pos 0
    go (yes c) = get_d-tab 64 _ (pos 0) (suc k) c ∙ at (ltb (suc k / 8) r) refl
    go (no c) = get_or-eq_default (first_rows r xs) (pos 0) (omega (arith, length-tab 64 (λ i. cond (ltb (i / 8) r) (get_or xs i (pos 0)) (pos 0))))

-- DC, of the first rows too, and as the code hands it on
pub rows-dc : (n : ℕ) → 1 ≤ n → (xs : List ℤ) → get_or xs 0 (pos 0) ≡ get_or (first_rows n xs) 0 (pos 0)
unfolding first_rows
rows-dc n h xs =
    sym (get_d-tab 64 (λ i. cond (ltb (i / 8) n) (get_or xs i (pos 0)) (pos 0)) (pos 0) 0 (omega arith)
    ∙ ap (λ (t : Bool). cond t (get_or xs 0 (pos 0)) (pos 0)) (lt-ltb 0 n (omega arith)))

pub dc-read : {r x : ℤ} → mag r < 2 ^ 31 → r ≡ x → level (to_z w32 (of_z w32 r)) ≡ level x
dc-read f e = ap level (to_z-of_z w32 _ (record { sfits = f }) ∙ e)

-- the samples and the counts, where n samples of the number v were written
pub level-made : (z : Size) → listed z.ac 0 ≡ false → (xs : List ℤ) {t n : ℕ} {v : ℤ} {out : List ℕ} → Alone xs → n ≡ z.side * z.side → v ≡ level (get_or xs 0 (pos 0)) →
    (t ≡ n * tally_one (rule_u8 v)) × (out ≡ tab n (λ i. sample_u8 v)) → (t ≡ counted tally_one (unclamped z xs)) × (out ≡ block z xs)
level-made z d xs alone m f e = (
  e.0 ∙ (λ i. m i * tally_one (rule_u8 (f i))) ∙ sym (ap (counted tally_one) (level-unclamped z d xs alone) ∙ counted_same tally_one _ (z.side * z.side)),
  e.1 ∙ (λ i. tab (m i) (λ k. sample_u8 (f i))) ∙ sym (level-block z d xs alone),
)
