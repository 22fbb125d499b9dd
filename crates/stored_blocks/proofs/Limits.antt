-- A coefficient passes exactly when its product with the divisor lies within the limits of its frequency.
-- Assumes nothing.
use mathlib.Core.Path.{◌≡◌, refl, sym, ap, subst, ◌∙◌}
use mathlib.Core.Bool.{Bool, true, false, ◌&&◌}
use Prim.Native.Nat.{ℕ, zero, suc, ◌+◌, ◌-◌, ◌*◌, ◌/◌, ◌^◌, ◌≤◌, ◌<◌}
use native.Mathlib.Nat.{div-eq_of_lt-le, div-add-mod'}
use native.Mathlib.Omega.{arith}
use borrow.Author.Tests.{le-leb}
use lib.Dec.{T, leb, le→leb, leb→le}
use lib.ListN.{get_or}
use lib.IntN.{ℤ, pos, negsuc, neg_ℤ, nat_abs, ◌+ℤ◌, ◌-ℤ◌, ◌*ℤ◌}
use lib.Ieee.Bits.{is_true}
use lib.Signed.{le_z, ◌≤ℤ◌}
use Rattle.integers.specs.Equal.{eq_z}
use Rattle.integers.proofs.Equal.{eq_z-same, eq_z-true}
use Rattle.integers.proofs.Difference.{dif, dif-eq, differences, neg-dif, negsuc-dif, pos-dif}
use Rattle.integers.proofs.Order.{le_z-dif, dif-le, le-dif}
use Rattle.integers.proofs.Range.{some-yes, some-all}
use Rattle.lists.proofs.Tab.{get_d-tab}
use Rattle.quantize.specs.Quantize.{divisor_of, rounded, with_sign, coefficient}
use Rattle.quantize.proofs.Halves.{rounded-half}
use Rattle.stored_blocks.specs.Screen.{low, high, Passes, passes, low_limits, high_limits}
use Rattle.stored_blocks.proofs.Extent.{low-negative, high-positive}

same_test : (s t : Bool) → (T s → T t) → (T t → T s) → s ≡ t
same_test true t f g = sym (is_true t (f tt))
same_test false true f g = absurd (g tt)
same_test false false f g = refl

-- ---- the definition and its test

module _ (n q : ℕ) (c : ℤ) where
  pub passes-yes : T (passes n q c) → Passes n q c
  unfolding passes
  passes-yes t =
      let s = some-yes (low n) (high n) (λ S. eq_z (coefficient S q) c) t in
      record { number = s.number; from = s.from; to = s.to; has = eq_z-true (coefficient s.number q) c (is_true _ s.has) }

  pub passes-all : Passes n q c → T (passes n q c)
  unfolding passes
  passes-all s =
      some-all (low n) (high n) (λ S. eq_z (coefficient S q) c)
      (record { number = s.number; from = s.from; to = s.to; has = subst T (sym (eq_z-same (coefficient s.number q) c s.has)) tt })

-- ---- the numbers that round to k, in units of 2·h: the least is k·2·h - h

module _ (h : ℕ) (p : 0 < h) where
  least-rounds : (k : ℕ) → rounded (k * (2 * h) - h) (2 * h) ≡ k
  least-rounds k = sym (rounded-half (k * (2 * h) - h) h p) ∙ go k
    where
      go : (k : ℕ) → (k * (2 * h) - h + h) / (2 * h) ≡ k
      go zero = div-eq_of_lt-le (2 * h) (omega arith) (omega arith)
      go (suc k) = div-eq_of_lt-le (2 * h) (omega arith) (omega arith)

  rounds-least : (s : ℕ) → rounded s (2 * h) * (2 * h) ≤ s + h
  rounds-least s = subst (λ (r : ℕ). r * (2 * h) ≤ s + h) (rounded-half s h p) (omega (arith, div-add-mod' (s + h) (2 * h)))

-- ---- the limits: a product of c and d is held against l where c is negative, and else against h

unfoldable pub within : ℕ → ℕ → ℕ → ℤ → Bool
within l h d (pos k) = leb (2 * (k * d)) (h + d)
within l h d (negsuc k) = leb (2 * (suc k * d)) (l + d)

module _ (n q : ℕ) where
  abbrev d : ℕ
  d = divisor_of q

  abbrev half : ℕ
  half = d * 2 ^ 31

  abbrev l : ℕ
  l = nat_abs (low n)

  abbrev h : ℕ
  h = nat_abs (high n)

  positive : 0 < half
  unfolding divisor_of
  positive = omega arith

  unit : 2 * half ≡ d * 2 ^ 32
  unit = omega arith

  -- a size of at most E that rounds to r
  reaches : (s E : ℕ) → s ≤ E → 2 * (rounded s (d * 2 ^ 32) * d) ≤ E / 2 ^ 31 + d
  reaches s E b =
      let r : ℕ = rounded s (d * 2 ^ 32) in
      let m : r * (d * 2 ^ 32) ≤ s + half = rw unit at (rounds-least half positive s) in
      omega arith

  -- the least size that rounds to k
  reached : (k E : ℕ) → 2 * (k * d) ≤ E / 2 ^ 31 + d → k * (d * 2 ^ 32) - half ≤ E
  reached k E b = omega arith

  pub passes-within : {c : ℤ} → Passes n q c → T (within (l / 2 ^ 31) (h / 2 ^ 31) d c)
  unfolding within coefficient with_sign
  passes-within p = subst (λ (c : ℤ). T (within (l / 2 ^ 31) (h / 2 ^ 31) d c)) p.has (go p.number (rw (low-negative n) at p.from) (rw (high-positive n) at p.to))
    where
      negative : (r : ℕ) → 2 * (r * d) ≤ l / 2 ^ 31 + d → T (within (l / 2 ^ 31) (h / 2 ^ 31) d (neg_ℤ (pos r)))
      negative zero b = le→leb (2 * (0 * d)) (h / 2 ^ 31 + d) (omega arith)
      negative (suc k) b = le→leb _ _ b

      go : (S : ℤ) → neg_ℤ (pos l) ≤ℤ S → S ≤ℤ pos h → T (within (l / 2 ^ 31) (h / 2 ^ 31) d (coefficient S q))
      go (pos s) f t = le→leb _ _ (reaches s h (leb→le _ _ t.le))
      go (negsuc s) f t = let b = le-dif 0 l 0 (suc s) (rw (neg-dif l, negsuc-dif s) at f) in negative _ (reaches (suc s) l (omega arith))

  pub within-passes : (c : ℤ) → T (within (l / 2 ^ 31) (h / 2 ^ 31) d c) → Passes n q c
  unfolding within coefficient with_sign
  within-passes (pos k) t =
      let s : ℕ = k * (d * 2 ^ 32) - half in
      let b : s ≤ h = reached k h (leb→le _ _ t) in
      record {
        number = pos s;
        from = rw (low-negative n, neg-dif l, pos-dif s) (dif-le 0 l s 0 (omega arith));
        to = rw (high-positive n) (record { le = le→leb s h b });
        has = ap pos (rw unit at (least-rounds half positive k));
      }
  within-passes (negsuc k) t =
      let s : ℕ = suc k * (d * 2 ^ 32) - half in
      let b : s ≤ l = reached (suc k) l (leb→le _ _ t) in
      let e : suc (s - 1) ≡ s = omega (arith, positive) in
      record {
        number = negsuc (s - 1);
        from = rw (low-negative n, neg-dif l, negsuc-dif (s - 1)) (dif-le 0 l 0 (suc (s - 1)) (omega arith));
        to = rw (high-positive n) (record { le = tt });
        has = ap (λ (r : ℕ). neg_ℤ (pos r)) (ap (λ (z : ℕ). rounded z (d * 2 ^ 32)) e ∙ rw unit at (least-rounds half positive (suc k)));
      }

  pub within-test : (c : ℤ) → within (l / 2 ^ 31) (h / 2 ^ 31) d c ≡ passes n q c
  within-test c = same_test _ _ (λ t. passes-all n q c (within-passes c t)) (λ t. passes-within (passes-yes n q c t))

-- ---- the code's two comparisons, of which one holds by itself

module _ (d l h : ℕ) where
  -- an order, by differences
  order : {x y : ℤ} (a b c e : ℕ) → x ≡ dif a b → y ≡ dif c e → le_z x y ≡ leb (a + e) (c + b)
  order a b c e p q = (λ i. le_z (p i) (q i)) ∙ le_z-dif a b c e

  also : (s : Bool) → s && true ≡ s
  also true = refl
  also false = refl

  two-tests : (c : ℤ) → (le_z (pos 2 *ℤ (c *ℤ pos d) -ℤ pos d) (pos h) && le_z (neg_ℤ (pos l)) (pos 2 *ℤ (c *ℤ pos d) +ℤ pos d)) ≡ within l h d c
  unfolding within
  two-tests (pos k) =
      let p : ℕ = 2 * (k * d) in
      let less : pos 2 *ℤ (pos k *ℤ pos d) -ℤ pos d ≡ dif p d = simp differences (dif-eq _ _ _ _ (omega arith)) in
      let more : pos 2 *ℤ (pos k *ℤ pos d) +ℤ pos d ≡ dif (p + d) 0 = simp differences (dif-eq _ _ _ _ (omega arith)) in
      let none : p + 0 ≡ p = omega arith in
      let above = order p d h 0 less (pos-dif h) ∙ ap (λ (m : ℕ). leb m (h + d)) none in
      let below = order 0 l (p + d) 0 (neg-dif l) more ∙ le-leb (0 + 0) (p + d + l) (omega arith) in
      (λ i. above i && below i) ∙ also (leb p (h + d))
  two-tests (negsuc k) =
      let p : ℕ = 2 * (suc k * d) in
      let less : pos 2 *ℤ (negsuc k *ℤ pos d) -ℤ pos d ≡ dif 0 (p + d) = simp differences (dif-eq _ _ _ _ (omega arith)) in
      let more : pos 2 *ℤ (negsuc k *ℤ pos d) +ℤ pos d ≡ dif d p = simp differences (dif-eq _ _ _ _ (omega arith)) in
      let none : 0 + p ≡ p = omega arith in
      let swapped : d + l ≡ l + d = omega arith in
      let above = order 0 (p + d) h 0 less (pos-dif h) ∙ le-leb (0 + 0) (h + (p + d)) (omega arith) in
      let below = order 0 l d p (neg-dif l) more ∙ (λ i. leb (none i) (swapped i)) in
      λ i. above i && below i

-- what the loop finds at n
pub place-test : (n q : ℕ) → n < 64 → {c x l h : ℤ} {t : Bool} → x ≡ c → l ≡ get_or low_limits n (pos 0) → h ≡ get_or high_limits n (pos 0) →
    t ≡ (le_z (pos 2 *ℤ (x *ℤ pos (divisor_of q)) -ℤ pos (divisor_of q)) h && le_z l (pos 2 *ℤ (x *ℤ pos (divisor_of q)) +ℤ pos (divisor_of q))) → t ≡ passes n q c
unfolding low_limits high_limits
place-test n q b {c = c} ex el eh et =
    let d : ℤ = pos (divisor_of q) in
    let l = el ∙ get_d-tab 64 (λ k. neg_ℤ (pos (nat_abs (low k) / 2 ^ 31))) (pos 0) n b in
    let h = eh ∙ get_d-tab 64 (λ k. pos (nat_abs (high k) / 2 ^ 31)) (pos 0) n b in
    et
    ∙ (λ i. le_z (pos 2 *ℤ (ex i *ℤ d) -ℤ d) (h i) && le_z (l i) (pos 2 *ℤ (ex i *ℤ d) +ℤ d))
    ∙ two-tests (divisor_of q) (nat_abs (low n) / 2 ^ 31) (nat_abs (high n) / 2 ^ 31) c
    ∙ within-test n q c
