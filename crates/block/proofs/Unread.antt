-- "Two inputs that agree on the entries read give the same samples": for each size, at 8 and at 12 bits.
-- Assumes nothing.
use mathlib.Core.Path.{◌≡◌, refl, sym, ap, ◌∙◌}
use mathlib.Core.Bool.{Bool, true, false, cond, not, ◌&&◌}
use mathlib.Core.List.{List, [], ◌∷◌, map}
use Prim.Native.Nat.{ℕ, ◌+◌, ◌*◌, ◌/◌, ◌%◌, ◌<◌, ◌≤◌}
use native.Mathlib.Decide.{dec_lt}
use native.Mathlib.Omega.{arith}
use borrow.Author.Tests.{ltb-true}
use lib.Dec.{T, eqb, ltb}
use lib.ListN.{length, get_or, replicate, get_or-eq_default}
use lib.IntN.{ℤ, pos, nat_abs, ◌*ℤ◌}
use mir.Facts.{and_yes}
use mir.Syntax.{Width, w32, w64}
use Rattle.integers.specs.Wrap.{wrap}
use Rattle.integers.specs.Linear.{listed, zero_at, blank}
use Rattle.integers.proofs.Agree.{transform-agree}
use Rattle.lists.specs.Tab.{tab}
use Rattle.lists.proofs.Tab.{length-tab, get_d-tab, tab-ext}
use Rattle.gains.specs.Gains.{mirror, mirrored, upper4, gains4, skipped4, upper2, gains2, skipped2}
use Rattle.gains.proofs.Unread.{AgreeBut}
use Rattle.scaling.specs.Scaling.{descaled}
use Rattle.passes.specs.Passes.{Size, four, two, pass, column_pass, row_pass}
use Rattle.block.specs.Block.{column_of, columns, row_of, row_at, row_samples, samples, block, first_rows, without, block12bit}

-- f gives the same on inputs that agree but for the entries ks
abbrev pub Ignores : List ℕ → (List ℤ → List ℤ) → Type 0
Ignores ks f = (p q : List ℤ) → AgreeBut ks p q → f p ≡ f q

-- ---- a pass of a size, where its gains skip ks and its zero test does not look there

unfoldable apart : List ℕ → List ℕ → Bool
apart ks [] = true
apart ks (k ∷ ac) = not (listed ks k) && apart ks ac

off : (b : Bool) → T (not b) → b ≡ false
off true t = absurd t
off false t = refl

zero-agree : (ks : List ℕ) (p q : List ℤ) → AgreeBut ks p q → (ac : List ℕ) → T (apart ks ac) → zero_at ac p ≡ zero_at ac q
unfolding apart zero_at
zero-agree ks p q h [] t = refl
zero-agree ks p q h (k ∷ ac) t =
    let both = and_yes (not (listed ks k)) (apart ks ac) t in
    λ i. eqb (nat_abs (h k (off (listed ks k) both.0) i)) 0 && zero-agree ks p q h ac both.1 i

module _ (ks : List ℕ) (z : Size) (b : T (blank ks z.matrix)) where
  pass-ignores : (w : Width) (s : ℕ) → Ignores ks (pass w z.matrix s)
  unfolding pass
  pass-ignores w s p q h = ap (map (λ (v : ℤ). descaled w v s)) (transform-agree ks p q h w z.matrix b)

  module _ (a : T (apart ks z.ac)) (d : listed ks 0 ≡ false) where
    column-ignores : Ignores ks (column_pass z)
    unfolding column_pass
    column-ignores p q h =
        λ i. cond (zero-agree ks p q h z.ac a i) (replicate z.side (wrap w32 (pos 4 *ℤ h 0 d i))) (pass-ignores w32 (11 + z.extra) p q h i)

    row-ignores : Ignores ks (row_pass z)
    unfolding row_pass
    row-ignores p q h =
        λ i. cond (zero-agree ks p q h z.ac a i) (replicate z.side (descaled w32 (h 0 d i) 5)) (pass-ignores w32 (18 + z.extra) p q h i)

-- ---- a block whose passes ignore ks

-- xs and ys agree but for the rows ks and the columns ks
abbrev pub AgreeOff : List ℕ → List ℤ → List ℤ → Type 0
AgreeOff ks xs ys = (v u : ℕ) → v < 8 → u < 8 → listed ks v ≡ false → listed ks u ≡ false → get_or xs (8 * v + u) (pos 0) ≡ get_or ys (8 * v + u) (pos 0)

tab-agree : (ks : List ℕ) (n : ℕ) (f g : ℕ → ℤ) → ((k : ℕ) → k < n → listed ks k ≡ false → f k ≡ g k) → AgreeBut ks (tab n f) (tab n g)
tab-agree ks n f g h k l = go (dec_lt k n)
  where
    go : Dec (k < n) → get_or (tab n f) k (pos 0) ≡ get_or (tab n g) k (pos 0)
    go (yes b) = get_d-tab n f (pos 0) k b ∙ h k b l ∙ sym (get_d-tab n g (pos 0) k b)
    go (no b) =
        let out : n ≤ k = omega arith in
        get_or-eq_default (tab n f) (pos 0) (omega (arith, length-tab n f)) ∙ sym (get_or-eq_default (tab n g) (pos 0) (omega (arith, length-tab n g)))

module _ (ks : List ℕ) (column row : List ℤ → List ℤ) (c : Ignores ks column) (r : Ignores ks row) where
  columns-agree : (xs ys : List ℤ) → AgreeOff ks xs ys → (y u : ℕ) → u < 8 → listed ks u ≡ false →
      get_or (get_or (columns column xs) u []) y (pos 0) ≡ get_or (get_or (columns column ys) u []) y (pos 0)
  unfolding columns column_of
  columns-agree xs ys h y u b l =
      let e = c _ _ (tab-agree ks 8 (λ v. get_or xs (8 * v + u) (pos 0)) (λ v. get_or ys (8 * v + u) (pos 0)) (λ v a m. h v u a b m l)) in
      ap (λ (p : List ℤ). get_or p y (pos 0)) (get_d-tab 8 (λ u. column (column_of xs u)) [] u b ∙ e ∙ sym (get_d-tab 8 (λ u. column (column_of ys u)) [] u b))

  samples-agree : (clamp : ℤ → ℕ) (n : ℕ) (xs ys : List ℤ) → AgreeOff ks xs ys → samples column row clamp n xs ≡ samples column row clamp n ys
  unfolding samples row_samples row_at
  samples-agree clamp n xs ys h =
      tab-ext (n * n) _ _ (λ i b. ap (λ (p : List ℤ). clamp (get_or p (i % n) (pos 0))) (r _ _ (tab-agree ks 8 _ _ (columns-agree xs ys h (i / n)))))

-- ---- what is not loaded

without-agree : (ks : List ℕ) (p : List ℤ) → AgreeBut ks (without (pos 0) ks p) p
unfolding without
without-agree ks p k l = go (dec_lt k (length p))
  where
    f : ℕ → ℤ
    f k = cond (listed ks k) (pos 0) (get_or p k (pos 0))

    go : Dec (k < length p) → get_or (tab (length p) f) k (pos 0) ≡ get_or p k (pos 0)
    go (yes b) = get_d-tab (length p) f (pos 0) k b ∙ ap (λ (t : Bool). cond t (pos 0) (get_or p k (pos 0))) l
    go (no b) = get_or-eq_default (tab (length p) f) (pos 0) (omega (arith, length-tab (length p) f)) ∙ sym (get_or-eq_default p (pos 0) (omega arith))

-- entries that f ignores need not be there
pub skipping : (ks : List ℕ) (f : List ℤ → List ℤ) → Ignores ks f → (p : List ℤ) → f (without (pos 0) ks p) ≡ f p
skipping ks f h p = h _ p (without-agree ks p)

pub column-skipped : (ks : List ℕ) (f : List ℤ → List ℤ) → Ignores ks f → (xs : List ℤ) (u : ℕ) {p r : List ℤ} → p ≡ without (pos 0) ks (column_of xs u) → r ≡ f p → r ≡ f (column_of xs u)
column-skipped ks f h xs u e g = g ∙ ap f e ∙ skipping ks f h (column_of xs u)

-- nor columns that the rows ignore
module _ {A : Type 0} (ks : List ℕ) (column row : List ℤ → List ℤ) (clamp : ℤ → A) (n : ℕ) (r : Ignores ks row) (xs : List ℤ) (d : List ℤ) where
  rows_agree : (y : ℕ) → AgreeBut ks (row_of (without d ks (columns column xs)) y) (row_of (columns column xs) y)
  unfolding row_at columns without
  rows_agree y = tab-agree ks 8 _ _ (λ u b l. ap (λ (p : List ℤ). get_or p y (pos 0)) (there u b l ∙ sym (made u b [])))
    where
      made : (u : ℕ) → u < 8 → (e : List ℤ) → get_or (columns column xs) u e ≡ column (column_of xs u)
      made u b e = get_d-tab 8 (λ u. column (column_of xs u)) e u b

      there : (u : ℕ) → u < 8 → listed ks u ≡ false → get_or (without d ks (columns column xs)) u [] ≡ column (column_of xs u)
      there u b l =
          get_d-tab (length (columns column xs)) (λ k. cond (listed ks k) d (get_or (columns column xs) k d)) [] u (omega (arith, length-tab 8 (λ u. column (column_of xs u))))
          ∙ ap (λ (t : Bool). cond t d (get_or (columns column xs) u d)) l ∙ made u b d

  pub samples-without : {cols : List (List ℤ)} {out : List A} → cols ≡ without d ks (columns column xs) → out ≡ row_samples row clamp n cols → out ≡ samples column row clamp n xs
  unfolding samples row_samples
  samples-without e h = h ∙ ap (row_samples row clamp n) e ∙ tab-ext (n * n) _ _ (λ i b. ap (λ (p : List ℤ). clamp (get_or p (i % n) (pos 0))) (r _ _ (rows_agree (i / n))))

-- ---- the sizes

-- each pass of a size ignores what the size skips
pub four-pass : (w : Width) (s : ℕ) → Ignores skipped4 (pass w gains4 s)
unfolding four zero_at blank mirror mirrored upper4 gains4
four-pass = pass-ignores skipped4 four tt

pub two-pass : (w : Width) (s : ℕ) → Ignores skipped2 (pass w gains2 s)
unfolding two zero_at blank mirror mirrored upper2 gains2
two-pass = pass-ignores skipped2 two tt

pub four-column : Ignores skipped4 (column_pass four)
unfolding four apart zero_at listed blank mirror mirrored upper4 gains4
four-column = column-ignores skipped4 four tt tt refl

pub two-column : Ignores skipped2 (column_pass two)
unfolding two apart zero_at listed blank mirror mirrored upper2 gains2
two-column = column-ignores skipped2 two tt tt refl

four-row : Ignores skipped4 (row_pass four)
unfolding four apart zero_at listed blank mirror mirrored upper4 gains4
four-row = row-ignores skipped4 four tt tt refl

pub two-row : Ignores skipped2 (row_pass two)
unfolding two apart zero_at listed blank mirror mirrored upper2 gains2
two-row = row-ignores skipped2 two tt tt refl

-- the columns of 2×2, of which five are made: each loaded as p and passed over as r
module _ (f : List ℤ → List ℤ) (skips : Ignores skipped2 f) (xs : List ℤ) where
  abbrev Made : ℕ → List ℤ → List ℤ → Type 0
  Made u p r = (p ≡ without (pos 0) skipped2 (column_of xs u)) × (r ≡ f p)

  pub two-columns : (d : List ℤ) {p0 p1 p3 p5 p7 r0 r1 r3 r5 r7 : List ℤ} → Made 0 p0 r0 → Made 1 p1 r1 → Made 3 p3 r3 → Made 5 p5 r5 → Made 7 p7 r7 →
      r0 ∷ r1 ∷ d ∷ r3 ∷ d ∷ r5 ∷ d ∷ r7 ∷ [] ≡ without d skipped2 (columns f xs)
  unfolding tab listed columns without
  two-columns d m0 m1 m3 m5 m7 = λ i. made 0 m0 i ∷ made 1 m1 i ∷ d ∷ made 3 m3 i ∷ d ∷ made 5 m5 i ∷ d ∷ made 7 m7 i ∷ []
    where
      made : (u : ℕ) {p r : List ℤ} → Made u p r → r ≡ f (column_of xs u)
      made u m = column-skipped skipped2 f skips xs u m.0 m.1

-- and so does the block
pub four-reads : (xs ys : List ℤ) → AgreeOff skipped4 xs ys → (block four xs ≡ block four ys) × (block12bit four xs ≡ block12bit four ys)
unfolding block block12bit four
four-reads xs ys h =
    (samples-agree skipped4 _ _ four-column four-row _ 4 xs ys h, samples-agree skipped4 _ _ (four-pass w64 13) (four-pass w64 18) _ 4 xs ys h)

pub two-reads : (xs ys : List ℤ) → AgreeOff skipped2 xs ys → (block two xs ≡ block two ys) × (block12bit two xs ≡ block12bit two ys)
unfolding block block12bit two
two-reads xs ys h =
    (samples-agree skipped2 _ _ two-column two-row _ 2 xs ys h, samples-agree skipped2 _ _ (two-pass w64 14) (two-pass w64 19) _ 2 xs ys h)

-- the first n rows: entries from row n on play no part
pub rows-read : (n : ℕ) (xs ys : List ℤ) → ((i : ℕ) → i < 64 → i / 8 < n → get_or xs i (pos 0) ≡ get_or ys i (pos 0)) → first_rows n xs ≡ first_rows n ys
unfolding first_rows
rows-read n xs ys h = tab-ext 64 _ _ (λ i b. go i b (ltb (i / 8) n) refl)
  where
    go : (i : ℕ) → i < 64 → (t : Bool) → ltb (i / 8) n ≡ t → cond t (get_or xs i (pos 0)) (pos 0) ≡ cond t (get_or ys i (pos 0)) (pos 0)
    go i b true e = h i b (ltb-true (i / 8) n e)
    go i b false e = refl
