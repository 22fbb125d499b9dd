-- A zero among the first places of a table, or none at all.
-- Assumes nothing.
use Rattle.std.specs.Prelude.{◌≡◌, ℕ, zero, suc, ◌+◌, ◌<◌, ◌≤◌, Bool, true, not, ◌||◌, T, eqb, List, [], ◌∷◌, ◌++◌, length, get_or, take}
use mathlib.Core.Path.{sym, ap, subst, ◌∙◌}
use mathlib.Core.Bool.{or-false, or_assoc}
use native.Mathlib.Numerals.{add-one}
use native.Mathlib.Decide.{ℕ_discrete}
use native.Mathlib.Omega.{arith}
use borrow.Author.Tests.{eq-eqb}
use lib.Dec.{T_not}
use lib.Seq.{take-suc}
use lib.Ieee.Bits.{is_true}
use mir.Facts.{or_no}
use Rattle.guarded_quantizer.specs.Divisors.{has_zero}

zero-snoc : (l : List ℕ) (q : ℕ) → has_zero (l ++ (q ∷ [])) ≡ (has_zero l || eqb q 0)
unfolding has_zero
zero-snoc [] q = or-false (eqb q 0)
zero-snoc (p ∷ l) q = ap (λ (b : Bool). eqb p 0 || b) (zero-snoc l q) ∙ sym (or_assoc (eqb p 0) (has_zero l) (eqb q 0))

-- one place more
pub zero_more : (l : List ℕ) (k : ℕ) {found : Bool} → k < length l → found ≡ has_zero (take k l) → (found || eqb (get_or l k 0) 0) ≡ has_zero (take (k + 1) l)
zero_more l k h e =
    ap (λ (b : Bool). b || eqb (get_or l k 0) 0) e ∙ sym (zero-snoc (take k l) (get_or l k 0)) ∙ ap has_zero (sym (take-suc l k 0 h))
    ∙ ap (λ (j : ℕ). has_zero (take j l)) (sym (add-one k))

-- where there is none, each quantizer is 1 or more
pub no_zero : (l : List ℕ) (k : ℕ) → not (has_zero l) ≡ true → k < length l → 1 ≤ get_or l k 0
unfolding has_zero
no_zero [] k e h = absurd (omega arith)
no_zero (q ∷ l) zero e h = go (or_no (eqb q 0) (has_zero l) (subst T (sym e) tt))
  where
    go : T (not (eqb q 0)) × T (not (has_zero l)) → 1 ≤ q
    go both = by (ℕ_discrete q 0)
      where
        by : Dec (q ≡ 0) → 1 ≤ q
        by (yes z) = absurd (T_not (eqb q 0) both.0 (subst T (sym (eq-eqb q 0 z)) tt))
        by (no z) = omega arith
no_zero (q ∷ l) (suc k) e h = no_zero l k (is_true _ (or_no (eqb q 0) (has_zero l) (subst T (sym e) tt)).1) (omega arith)
