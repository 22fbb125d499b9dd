-- A column of 16-bit numbers: its zero shortcut equals the full pass, at each size. (4·p0·2^s is below 2^31 with its rounding.)
-- Assumes nothing.
use mathlib.Core.Path.{◌≡◌, refl, sym, ap, ◌∙◌, subst}
use mathlib.Core.Bool.{Bool, true, false, cond, ◌||◌}
use mathlib.Core.List.{List, [], ◌∷◌, map}
use Prim.Native.Nat.{ℕ, zero, suc, ◌+◌, ◌-◌, ◌*◌, ◌^◌, ◌<◌, ◌≤◌}
use native.Mathlib.Decide.{dec_lt}
use native.Mathlib.Nat.{mul-le-mul, lt_of_le_of_lt}
use native.Mathlib.Omega.{arith}
use lib.Dec.{T, eqb, eqb-suc-zero, lit≤}
use lib.ListN.{length, get_or, replicate, get_or-eq_default}
use lib.Pow.{pow_mono, pow-lt}
use lib.IntN.{ℤ, pos, nat_abs, ◌+ℤ◌, ◌*ℤ◌, +ℤ_idr}
use mir.Syntax.{w32}
use mir.Val.{SFits}
use Rattle.integers.specs.Fits16.{Fits16}
use Rattle.integers.specs.Wrap.{wrap}
use Rattle.integers.specs.Floor.{floor_div}
use Rattle.integers.specs.Linear.{dot, transform, listed, zero_at, blank}
use Rattle.integers.proofs.Ring.{nat_abs-+, nat_abs-*, ring}
use Rattle.integers.proofs.Wrap.{wrap-id}
use Rattle.integers.proofs.Floor.{floor-unique}
use Rattle.integers.proofs.Bound.{mag-le}
use Rattle.integers.proofs.Agree.{zero-entry, transform-agree}
use Rattle.lists.proofs.Tab.{length-tab, tab-ext}
use Rattle.lists.specs.Below.{below}
use Rattle.lists.specs.Every.{Every}
use Rattle.lists.proofs.Below.{below_at}
use Rattle.gains.specs.Gains.{mirror, mirrored, upper, gains, upper4, gains4, skipped4, upper2, gains2, skipped2}
use Rattle.gains.proofs.Unread.{AgreeBut}
use Rattle.scaling.specs.Scaling.{descaled}
use Rattle.scaling.proofs.Rounding.{descaled-exact}
use Rattle.passes.specs.Passes.{Size, eight, four, two, dc, pass, column_pass}
use Rattle.block.proofs.Exact.{fits-at-most}
use Rattle.block.specs.Block.{column_of, columns}

fits : (z : ℤ) → nat_abs z < 2 ^ 31 → SFits w32 z
fits z h = record { sfits = lt_of_le_of_lt (mag-le z) h }

-- 4·2^s·a, rounded and scaled down by s bits, is 4·a
scaled : (s : ℕ) → 1 ≤ s → s ≤ 13 → (a : ℤ) → nat_abs a ≤ 2 ^ 15 → descaled w32 (wrap w32 (pos (4 * 2 ^ s) *ℤ a)) s ≡ wrap w32 (pos 4 *ℤ a)
scaled s l h a m =
    let n : ℕ = 2 ^ s in
    let small : n ≤ 8192 = pow_mono h in
    let half : 2 ^ (s - 1) < n = pow-lt (omega arith) in
    let wide : 4 * n ≤ 4 * 8192 = omega arith in
    let size : nat_abs (pos (4 * n) *ℤ a) ≤ 4 * 8192 * 2 ^ 15 = rw (nat_abs-* (pos (4 * n)) a) (mul-le-mul wide m) in
    let sum = nat_abs-+ (pos (4 * n) *ℤ a) (pos (2 ^ (s - 1))) in
    let four : nat_abs (pos 4 *ℤ a) ≤ 4 * 2 ^ 15 = rw (nat_abs-* (pos 4) a) (omega (arith)) in
    let regroup : pos (4 * n) *ℤ a ≡ (pos 4 *ℤ a) *ℤ pos n = simp ring in
    ap (λ (z : ℤ). descaled w32 z s) (wrap-id w32 _ (fits _ (omega arith)))
    ∙ descaled-exact w32 _ s (fits _ (omega arith))
    ∙ ap (λ (z : ℤ). floor_div (z +ℤ pos (2 ^ (s - 1))) n) regroup
    ∙ floor-unique (pos 4 *ℤ a) half
    ∙ sym (wrap-id w32 _ (fits _ (omega arith)))

-- what a size must be: every entry besides p0 is skipped or tested
module _ (z : Size) (ks : List ℕ) (b : T (blank ks z.matrix))
    (covered : T (below 8 (λ k. eqb k 0 || (listed ks k || listed z.ac k)))) where
  tested : (k : ℕ) → suc k < 8 → listed ks (suc k) ≡ false → T (listed z.ac (suc k))
  tested k h e = rw (eqb-suc-zero k, e) at (below_at 8 (λ k. eqb k 0 || (listed ks k || listed z.ac k)) covered (suc k) h)

  alone : (p : List ℤ) → length p ≡ 8 → T (zero_at z.ac p) → AgreeBut ks p (dc p ∷ [])
  alone p l t zero e = refl
  alone p l t (suc k) e = go (dec_lt (suc k) 8)
    where
      go : Dec (suc k < 8) → get_or p (suc k) (pos 0) ≡ pos 0
      go (yes h) = zero-entry z.ac p t (suc k) (tested k h e)
      go (no h) = get_or-eq_default p (pos 0) (omega arith)

  -- a pass that gives of p0 alone the same value in each place may be cut short to it
  pub shortcut : (s B : ℕ) (value : ℤ → ℤ) → ((a : ℤ) → nat_abs a ≤ B → pass w32 z.matrix s (a ∷ []) ≡ replicate z.side (value a)) →
      (p : List ℤ) → length p ≡ 8 → nat_abs (dc p) ≤ B → pass w32 z.matrix s p ≡ cond (zero_at z.ac p) (replicate z.side (value (dc p))) (pass w32 z.matrix s p)
  unfolding pass
  shortcut s B value solo p l m = go (zero_at z.ac p) refl
    where
      go : (t : Bool) → zero_at z.ac p ≡ t → pass w32 z.matrix s p ≡ cond t (replicate z.side (value (dc p))) (pass w32 z.matrix s p)
      go true e = ap (map (λ (v : ℤ). descaled w32 v s)) (transform-agree ks p (dc p ∷ []) (alone p l (subst T (sym e) tt)) w32 z.matrix b) ∙ solo (dc p) m
      go false e = refl

  -- a column of p0 alone gives 4·p0
  column-full : ((a : ℤ) → nat_abs a ≤ 2 ^ 15 → pass w32 z.matrix (11 + z.extra) (a ∷ []) ≡ replicate z.side (wrap w32 (pos 4 *ℤ a))) →
      (p : List ℤ) → length p ≡ 8 → nat_abs (dc p) ≤ 2 ^ 15 → pass w32 z.matrix (11 + z.extra) p ≡ column_pass z p
  unfolding column_pass
  column-full = shortcut (11 + z.extra) (2 ^ 15) (λ a. wrap w32 (pos 4 *ℤ a))

solo-entry : (s : ℕ) → 1 ≤ s → s ≤ 13 → (a : ℤ) → nat_abs a ≤ 2 ^ 15 → descaled w32 (wrap w32 (pos (4 * 2 ^ s) *ℤ a +ℤ pos 0)) s ≡ wrap w32 (pos 4 *ℤ a)
solo-entry s l h a m = ap (λ (x : ℤ). descaled w32 (wrap w32 x) s) (+ℤ_idr (pos (4 * 2 ^ s) *ℤ a)) ∙ scaled s l h a m

pub column-eight : (p : List ℤ) → length p ≡ 8 → nat_abs (dc p) ≤ 2 ^ 15 → pass w32 gains 11 p ≡ column_pass eight p
unfolding pass transform dot eight zero_at listed blank below mirror mirrored upper gains
column-eight = column-full eight [] tt tt (λ a m. ap (replicate 8) (solo-entry 11 (lit≤ tt) (lit≤ tt) a m))

pub column-four : (p : List ℤ) → length p ≡ 8 → nat_abs (dc p) ≤ 2 ^ 15 → pass w32 gains4 12 p ≡ column_pass four p
unfolding pass transform dot four zero_at listed blank below mirror mirrored upper4 gains4
column-four = column-full four skipped4 tt tt (λ a m. ap (replicate 4) (solo-entry 12 (lit≤ tt) (lit≤ tt) a m))

pub column-two : (p : List ℤ) → length p ≡ 8 → nat_abs (dc p) ≤ 2 ^ 15 → pass w32 gains2 13 p ≡ column_pass two p
unfolding pass transform dot two zero_at listed blank below mirror mirrored upper2 gains2
column-two = column-full two skipped2 tt tt (λ a m. ap (replicate 2) (solo-entry 13 (lit≤ tt) (lit≤ tt) a m))

-- the columns of a block of 16-bit numbers
pub columns-eight : (xs : List ℤ) → ((u : ℕ) → u < 8 → Every Fits16 (column_of xs u)) → columns (pass w32 gains 11) xs ≡ columns (column_pass eight) xs
unfolding columns column_of
columns-eight xs h = tab-ext 8 _ _ (λ u b. column-eight (column_of xs u) (length-tab 8 _) (fits-at-most (h u b) 0))
