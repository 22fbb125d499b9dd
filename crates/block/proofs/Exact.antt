-- "Scaled down at 64 bits where nothing wraps": for any 16-bit input the 12-bit blocks are the exact sums, rounded and scaled down.
-- Assumes nothing.
use mathlib.Core.Path.{◌≡◌, refl, sym, ap, ◌∙◌}
use mathlib.Core.Bool.{Bool, true, ◌&&◌}
use mathlib.Core.List.{List, [], ◌∷◌}
use Prim.Native.Nat.{ℕ, zero, suc, ◌+◌, ◌-◌, ◌*◌, ◌/◌, ◌%◌, ◌^◌, ◌<◌, ◌≤◌, zero-le}
use native.Mathlib.Nat.{lt_of_le_of_lt, div-le_self}
use native.Mathlib.Omega.{arith}
use lib.Dec.{T, ltb, ltb→lt}
use lib.ListN.{length, get_or}
use lib.IntN.{ℤ, pos, negsuc, nat_abs, ◌+ℤ◌}
use mir.Facts.{and_yes}
use mir.Syntax.{Width, w32, w64}
use mir.Val.{hbits}
use Rattle.integers.specs.Fits16.{Fits16}
use Rattle.integers.specs.Wrap.{wrap}
use Rattle.integers.specs.Floor.{floor_div}
use Rattle.integers.specs.Linear.{dot, transform, weight}
use Rattle.integers.proofs.Fits16.{fits16-zero, fits16-abs}
use Rattle.integers.proofs.Ring.{nat_abs-+}
use Rattle.integers.proofs.Bound.{nat_abs-dot, mag-le, wrap-dot}
use Rattle.lists.specs.Every.{Every}
use Rattle.lists.specs.Tab.{tab}
use Rattle.lists.proofs.Every.{every-at}
use Rattle.lists.proofs.Tab.{get_d-tab, get_d-every, tab-ext}
use Rattle.gains.specs.Gains.{mirror, mirrored, upper, gains, upper4, gains4, upper2, gains2}
use Rattle.scaling.specs.Scaling.{descaled}
use Rattle.clamping.specs.Clamping.{sample12bit}
use Rattle.scaling.proofs.Rounding.{descaled-exact}
use Rattle.passes.specs.Passes.{Size, eight, four, two, pass}
use Rattle.block.specs.Bound.{AtMost}
use Rattle.block.specs.Block.{column_of, columns, row_of, row_at, row_samples, samples, block12bit}

-- the exact sums, each rounded and scaled down by s bits
unfoldable pub exact_pass : List (List ℤ) → ℕ → List ℤ → List ℤ
exact_pass [] s p = []
exact_pass (row ∷ rows) s p = floor_div (dot row p +ℤ pos (2 ^ (s - 1))) (2 ^ s) ∷ exact_pass rows s p

pub exact-at : (rows : List (List ℤ)) (s : ℕ) (p : List ℤ) (k : ℕ) → k < length rows → get_or (exact_pass rows s p) k (pos 0) ≡ floor_div (dot (get_or rows k []) p +ℤ pos (2 ^ (s - 1))) (2 ^ s)
unfolding exact_pass
exact-at [] s p k h = absurd (omega arith)
exact-at (row ∷ rows) s p zero h = refl
exact-at (row ∷ rows) s p (suc k) h = exact-at rows s p k (omega arith)

-- every row's sum of numbers of absolute value at most B, with its rounding, stays below L
unfoldable pub light : ℕ → ℕ → ℕ → List (List ℤ) → Bool
light L B s [] = true
light L B s (row ∷ rows) = ltb (weight row * B + 2 ^ (s - 1)) L && light L B s rows

floor-le : (z : ℤ) (m : ℕ) → nat_abs (floor_div z m) ≤ nat_abs z
floor-le (pos a) m = div-le_self a m
floor-le (negsuc a) m = omega (arith, div-le_self a m)

module _ (p : List ℤ) (B : ℕ) (h : (k : ℕ) → nat_abs (get_or p k (pos 0)) ≤ B) (s : ℕ) where
  sum-le : (row : List ℤ) → nat_abs (dot row p +ℤ pos (2 ^ (s - 1))) ≤ weight row * B + 2 ^ (s - 1)
  sum-le row = omega (arith, nat_abs-+ (dot row p) (pos (2 ^ (s - 1))), nat_abs-dot row p B h)

  row-exact : (w : Width) (row : List ℤ) → weight row * B + 2 ^ (s - 1) < 2 ^ hbits w → descaled w (wrap w (dot row p)) s ≡ floor_div (dot row p +ℤ pos (2 ^ (s - 1))) (2 ^ s)
  row-exact w row l =
      ap (λ (z : ℤ). descaled w z s) (wrap-dot w row p B h (omega arith))
      ∙ descaled-exact w (dot row p) s (record { sfits = lt_of_le_of_lt (mag-le (dot row p +ℤ pos (2 ^ (s - 1)))) (lt_of_le_of_lt (sum-le row) l) })

  pub pass-exact : (w : Width) (rows : List (List ℤ)) → T (light (2 ^ hbits w) B s rows) → pass w rows s p ≡ exact_pass rows s p
  unfolding pass transform exact_pass light
  pass-exact w [] t = refl
  pass-exact w (row ∷ rows) t =
      let both = and_yes (ltb (weight row * B + 2 ^ (s - 1)) (2 ^ hbits w)) (light (2 ^ hbits w) B s rows) t in
      λ i. row-exact w row (ltb→lt _ _ both.0) i ∷ pass-exact w rows both.1 i

  pub exact-le : (L : ℕ) (rows : List (List ℤ)) → T (light L B s rows) → (k : ℕ) → nat_abs (get_or (exact_pass rows s p) k (pos 0)) ≤ L
  unfolding exact_pass light
  exact-le L [] t k = zero-le
  exact-le L (row ∷ rows) t zero =
      let both = and_yes (ltb (weight row * B + 2 ^ (s - 1)) L) (light L B s rows) t in
      let l : weight row * B + 2 ^ (s - 1) < L = ltb→lt _ _ both.0 in
      omega (arith, floor-le (dot row p +ℤ pos (2 ^ (s - 1))) (2 ^ s), sum-le row)
  exact-le L (row ∷ rows) t (suc k) = exact-le L rows (and_yes (ltb (weight row * B + 2 ^ (s - 1)) L) (light L B s rows) t).1 k

-- ---- the blocks

pub tab-at-most : (B n : ℕ) (f : ℕ → ℤ) → ((k : ℕ) → k < n → nat_abs (f k) ≤ B) → AtMost B (tab n f)
tab-at-most B n f h = get_d-every (λ (z : ℤ). nat_abs z ≤ B) n f (pos 0) zero-le h

-- numbers of 16 bits
pub fits-at-most : {p : List ℤ} → Every Fits16 p → AtMost (2 ^ 15) p
fits-at-most h k = fits16-abs _ (every-at h (pos 0) fits16-zero k)

column-at-most : (B : ℕ) (xs : List ℤ) → AtMost B xs → (u : ℕ) → AtMost B (column_of xs u)
unfolding column_of
column-at-most B xs h u = tab-at-most B 8 _ (λ v b. h (8 * v + u))

row-at-most : (B : ℕ) (column : List ℤ → List ℤ) (xs : List ℤ) → ((u : ℕ) → AtMost B (column (column_of xs u))) → (y : ℕ) → AtMost B (row_of (columns column xs) y)
unfolding row_at columns
row-at-most B column xs h y = tab-at-most B 8 _ (λ u b. rw (get_d-tab 8 (λ u. column (column_of xs u)) [] u b) (h u y))

-- passes that agree on what they are given make the same block
samples-cong : (column row column' row' : List ℤ → List ℤ) (xs : List ℤ) → ((u : ℕ) → column (column_of xs u) ≡ column' (column_of xs u)) →
    ((y : ℕ) → row (row_of (columns column' xs) y) ≡ row' (row_of (columns column' xs) y)) → (clamp : ℤ → ℕ) (n : ℕ) → samples column row clamp n xs ≡ samples column' row' clamp n xs
unfolding samples row_samples columns
samples-cong column row column' row' xs c r clamp n =
    tab-ext (n * n) _ _ (λ i b. ap (λ (p : List ℤ). clamp (get_or p (i % n) (pos 0)))
    (ap (λ (cols : List (List ℤ)). row (row_of cols (i / n))) (tab-ext 8 _ _ (λ u b. c u)) ∙ r (i / n)))

module _ (z : Size) (c : T (light (2 ^ 63) (2 ^ 15) (12 + z.extra) z.matrix)) (l : T (light (2 ^ 32) (2 ^ 15) (12 + z.extra) z.matrix))
    (r : T (light (2 ^ 63) (2 ^ 32) (17 + z.extra) z.matrix)) where
  exact : (xs : List ℤ) → AtMost (2 ^ 15) xs →
      block12bit z xs ≡ samples (exact_pass z.matrix (12 + z.extra)) (exact_pass z.matrix (17 + z.extra)) sample12bit z.side xs
  unfolding block12bit
  exact xs h =
      let column = column-at-most (2 ^ 15) xs h in
      samples-cong _ _ _ _ xs (λ u. pass-exact (column_of xs u) (2 ^ 15) (column u) (12 + z.extra) w64 z.matrix c)
      (λ y. pass-exact _ (2 ^ 32) (row-at-most (2 ^ 32) _ xs (λ u. exact-le (column_of xs u) (2 ^ 15) (column u) (12 + z.extra) (2 ^ 32) z.matrix l) y) (17 + z.extra) w64 z.matrix r) _ _

pub exact-eight : (xs : List ℤ) → AtMost (2 ^ 15) xs → block12bit eight xs ≡ samples (exact_pass gains 12) (exact_pass gains 17) sample12bit 8 xs
unfolding eight light weight mirror mirrored upper gains
exact-eight = exact eight tt tt tt

pub exact-four : (xs : List ℤ) → AtMost (2 ^ 15) xs → block12bit four xs ≡ samples (exact_pass gains4 13) (exact_pass gains4 18) sample12bit 4 xs
unfolding four light weight mirror mirrored upper4 gains4
exact-four = exact four tt tt tt

pub exact_two : (xs : List ℤ) → AtMost (2 ^ 15) xs → block12bit two xs ≡ samples (exact_pass gains2 14) (exact_pass gains2 19) sample12bit 2 xs
unfolding two light weight mirror mirrored upper2 gains2
exact_two = exact two tt tt tt

-- the 8-point column pass of 16-bit numbers fits 32 bits too
column-at-32 : (p : List ℤ) → AtMost (2 ^ 15) p → pass w32 gains 12 p ≡ pass w64 gains 12 p
unfolding light weight mirror mirrored upper gains
column-at-32 p h = pass-exact p (2 ^ 15) h 12 w32 gains tt ∙ sym (pass-exact p (2 ^ 15) h 12 w64 gains tt)

-- and so do the columns of a block of 16-bit numbers
pub columns-narrow : (xs : List ℤ) → ((u : ℕ) → u < 8 → Every Fits16 (column_of xs u)) → columns (pass w32 gains 12) xs ≡ columns (pass w64 gains 12) xs
unfolding columns
columns-narrow xs h = tab-ext 8 _ _ (λ u b. column-at-32 (column_of xs u) (fits-at-most (h u b)))
