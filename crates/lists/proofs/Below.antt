-- A test at every number below a bound, and the fact at each; facts at the eight numbers below 8.
-- Assumes nothing.
use mathlib.Core.Path.{◌≡◌, refl, sym, ap, subst, ◌∙◌}
use mathlib.Core.Bool.{Bool, true, false, ◌&&◌}
use Prim.Native.Nat.{ℕ, zero, suc, ◌+◌, ◌<◌}
use native.Mathlib.Numerals.{add-one}
use native.Mathlib.Decide.{dec_lt}
use native.Mathlib.Omega.{arith}
use lib.Dec.{T}
use mir.Facts.{and_yes}
use Rattle.lists.specs.Below.{below}

pub below_at : (n : ℕ) (f : ℕ → Bool) → T (below n f) → (k : ℕ) → k < n → T (f k)
unfolding below
below_at zero f t k h = absurd (omega arith)
below_at (suc n) f t k h = go (and_yes (f n) (below n f) t) (λ r l. below_at n f r k l) (dec_lt k n)
  where
    go : T (f n) × T (below n f) → (T (below n f) → k < n → T (f k)) → Dec (k < n) → T (f k)
    go both rest (yes l) = rest both.1 l
    go both rest (no l) = let e : n ≡ k = omega arith in subst (λ (j : ℕ). T (f j)) e both.0

-- as equations
pub holds_at : (n : ℕ) (f : ℕ → Bool) → below n f ≡ true → (k : ℕ) → k < n → f k ≡ true
holds_at n f e k h = is_true (f k) (below_at n f (subst T (sym e) tt) k h)
  where
    is_true : (b : Bool) → T b → b ≡ true
    is_true true t = refl
    is_true false t = absurd t

-- and back
pub at-below : (n : ℕ) (f : ℕ → Bool) → ((k : ℕ) → k < n → T (f k)) → T (below n f)
unfolding below
at-below zero f h = tt
at-below (suc n) f h = both (f n) (below n f) (h n (omega arith)) (at-below n f (λ k b. h k (omega arith)))
  where
    both : (s t : Bool) → T s → T t → T (s && t)
    both true t p q = q
    both false t p q = elim p [ ]

-- every place holds
pub below_holds : (n : ℕ) (f : ℕ → Bool) → ((k : ℕ) → k < n → f k ≡ true) → below n f ≡ true
unfolding below
below_holds zero f h = refl
below_holds (suc n) f h = (λ i. h n (omega arith) i && below n f) ∙ below_holds n f (λ k b. h k (omega arith))

-- a loop's test at one place more
pub below_next : (f : ℕ → Bool) (n : ℕ) {s t : Bool} → t ≡ f n → s ≡ below n f → (t && s) ≡ below (n + 1) f
unfolding below
below_next f n d e = (λ i. d i && e i) ∙ ap (λ (m : ℕ). below m f) (sym (add-one n))

-- and where the loop ends
pub below_all : (f : ℕ → Bool) (n m : ℕ) {s : Bool} → s ≡ below n f → n ≡ m → s ≡ below m f
below_all f n m e h = e ∙ ap (λ (k : ℕ). below k f) h

-- a fact at each of the numbers below 8, one by one
pub each-8 : (P : ℕ → Type 0) → P 0 → P 1 → P 2 → P 3 → P 4 → P 5 → P 6 → P 7 → (i : ℕ) → i < 8 → P i
each-8 P p0 p1 p2 p3 p4 p5 p6 p7 zero h = p0
each-8 P p0 p1 p2 p3 p4 p5 p6 p7 (suc zero) h = p1
each-8 P p0 p1 p2 p3 p4 p5 p6 p7 (suc (suc zero)) h = p2
each-8 P p0 p1 p2 p3 p4 p5 p6 p7 (suc (suc (suc zero))) h = p3
each-8 P p0 p1 p2 p3 p4 p5 p6 p7 (suc (suc (suc (suc zero)))) h = p4
each-8 P p0 p1 p2 p3 p4 p5 p6 p7 (suc (suc (suc (suc (suc zero))))) h = p5
each-8 P p0 p1 p2 p3 p4 p5 p6 p7 (suc (suc (suc (suc (suc (suc zero)))))) h = p6
each-8 P p0 p1 p2 p3 p4 p5 p6 p7 (suc (suc (suc (suc (suc (suc (suc zero))))))) h = p7
each-8 P p0 p1 p2 p3 p4 p5 p6 p7 (suc (suc (suc (suc (suc (suc (suc (suc i)))))))) h = absurd (past i h)
  where
    past : (i : ℕ) → suc (suc (suc (suc (suc (suc (suc (suc i))))))) < 8 → ⊥
    past i h = omega arith
