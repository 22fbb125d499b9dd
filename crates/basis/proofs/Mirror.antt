-- The mirror of the basis: from x to 7 - x its sign changes exactly where u is odd, and likewise from y to 7 - y and v.
-- Assumes nothing.
use mathlib.Core.Path.{◌≡◌, refl, sym, ap, ◌∙◌}
use mathlib.Core.Bool.{Bool, true, false, cond, ◌&&◌}
use Prim.Native.Nat.{ℕ, ◌-◌, ◌/◌, ◌%◌, ◌<◌}
use native.Mathlib.Decide.{dec_lt}
use native.Mathlib.Omega.{arith}
use borrow.Author.Tests.{lt-ltb, le-ltb}
use lib.Dec.{eqb, ltb}
use lib.IntN.{ℤ, neg_ℤ-neg_ℤ}
use Rattle.basis.specs.Basis.{signed, entry, reflected, mirrors, basis}

-- u is odd
abbrev pub odd : ℕ → Bool
odd u = eqb (u % 2) 1

near-mirror : (x : ℕ) → x < 8 → reflected (7 - x) ≡ reflected x
unfolding reflected
near-mirror x h = go (dec_lt 3 x)
  where
    go : Dec (3 < x) → cond (ltb 3 (7 - x)) (7 - (7 - x)) (7 - x) ≡ cond (ltb 3 x) (7 - x) x
    go (yes l) = simp (le-ltb 3 (7 - x) (omega arith), lt-ltb 3 x l) refl
    go (no l) = simp (lt-ltb 3 (7 - x) (omega arith), le-ltb 3 x (omega arith)) (omega arith)

twice : (t : Bool) (z : ℤ) → z ≡ signed t (signed t z)
unfolding signed
twice true z = sym (neg_ℤ-neg_ℤ z)
twice false z = refl

-- one of x and 7 - x is above 3
flips : (u x : ℕ) → x < 8 → (z : ℤ) → signed (mirrors u (7 - x)) z ≡ signed (odd u) (signed (mirrors u x) z)
unfolding signed mirrors
flips u x h z = go (dec_lt 3 x)
  where
    go : Dec (3 < x) → signed (ltb 3 (7 - x) && odd u) z ≡ signed (odd u) (signed (ltb 3 x && odd u) z)
    go (yes l) = simp (le-ltb 3 (7 - x) (omega arith), lt-ltb 3 x l) (twice (odd u) z)
    go (no l) = simp (lt-ltb 3 (7 - x) (omega arith), le-ltb 3 x (omega arith)) refl

swap : (s t : Bool) (z : ℤ) → signed s (signed t z) ≡ signed t (signed s z)
unfolding signed
swap true true z = refl
swap true false z = refl
swap false true z = refl
swap false false z = refl

pub mirror-x : (n x y : ℕ) → x < 8 → basis n (7 - x) y ≡ signed (odd (n % 8)) (basis n x y)
unfolding basis
mirror-x n x y h = ap (λ (k : ℕ). signed (mirrors (n % 8) (7 - x)) (signed (mirrors (n / 8) y) (entry n (reflected y) k))) (near-mirror x h) ∙ flips (n % 8) x h _

pub mirror-y : (n x y : ℕ) → y < 8 → basis n x (7 - y) ≡ signed (odd (n / 8)) (basis n x y)
unfolding basis
mirror-y n x y h =
    ap (λ (k : ℕ). signed (mirrors (n % 8) x) (signed (mirrors (n / 8) (7 - y)) (entry n k (reflected x)))) (near-mirror y h)
    ∙ ap (signed (mirrors (n % 8) x)) (flips (n / 8) y h _) ∙ swap (mirrors (n % 8) x) (odd (n / 8)) _
