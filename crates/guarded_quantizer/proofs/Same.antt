-- Sameness of two records (document 02, card 9): what a yes says, both ways; what is not looked at; an
-- equivalence; and finer only.
-- Assumes nothing.
use Rattle.std.specs.Prelude.{◌≡◌, ℕ, zero, suc, ◌<◌, ◌≤◌, Bool, ◌||◌, T, eqb, List, ◌∷◌, get_or, ℤ, pos}
use mathlib.Core.Path.{refl, sym, subst, ◌∙◌}
use native.Mathlib.Omega.{arith}
use borrow.Author.Tests.{eq-eqb, ne_eqb}
use lib.Dec.{eqb→eq}
use lib.Ieee.Bits.{is_true}
use mir.Facts.{and_yes, yes_and}
use Rattle.integers.specs.Equal.{eq_z}
use Rattle.integers.proofs.Equal.{eq_z-same, eq_z-true}
use Rattle.lists.proofs.Below.{below_at, at-below}
use Rattle.guarded_quantizer.specs.declared.QuantizedBlock.{QuantizedBlock}
use Rattle.guarded_quantizer.specs.Same.{same_ac, same_divisors, same_numbers, same_records, Same}
use Rattle.guarded_quantizer.proofs.Record.{made}

-- a place but the first
other : (z : ℕ) (t : Bool) → 1 ≤ z → T (eqb z 0 || t) → T t
other z t a = subst (λ (s : Bool). T (s || t)) (ne_eqb z 0 (λ e. omega arith))

-- and any place
each-other : (z : ℕ) (t : Bool) → (1 ≤ z → T t) → T (eqb z 0 || t)
each-other zero t h = tt
each-other (suc z) t h = subst (λ (s : Bool). T (s || t)) (sym (ne_eqb (suc z) 0 (λ e. omega arith))) (h (omega arith))

module _ (a b : QuantizedBlock) where
  -- DC and AC places 1 to 63, both ways
  pub numbers-yes : T (same_numbers a b) → (a.dc ≡ b.dc) × ((z : ℕ) → 1 ≤ z → z < 64 → get_or a.ac_coefficients z (pos 0) ≡ get_or b.ac_coefficients z (pos 0))
  unfolding same_ac same_numbers
  numbers-yes t =
      let both = and_yes (eq_z a.dc b.dc) (same_ac a.ac_coefficients b.ac_coefficients) t in
      (eq_z-true _ _ (is_true _ both.0), λ z p h. eq_z-true _ _ (is_true _ (other z _ p (below_at 64 _ both.1 z h))))

  pub numbers-all : a.dc ≡ b.dc → ((z : ℕ) → 1 ≤ z → z < 64 → get_or a.ac_coefficients z (pos 0) ≡ get_or b.ac_coefficients z (pos 0)) → T (same_numbers a b)
  unfolding same_ac same_numbers
  numbers-all dc ac =
      yes_and (eq_z a.dc b.dc) (same_ac a.ac_coefficients b.ac_coefficients) (subst T (sym (eq_z-same _ _ dc)) tt)
      (at-below 64 _ (λ z h. each-other z _ (λ p. subst T (sym (eq_z-same _ _ (ac z p h))) tt)))

  -- "exactly when"
  pub same-yes : T (same_records a b) → Same a b
  unfolding same_divisors same_records
  same-yes t =
      let both = and_yes (same_numbers a b) (same_divisors a.divisors b.divisors) t in
      let numbers = numbers-yes both.0 in
      record { dc = numbers.0; ac = numbers.1; divisors = λ n h. eqb→eq _ _ (below_at 64 _ both.1 n h) }

  pub same-all : Same a b → T (same_records a b)
  unfolding same_divisors same_records
  same-all s =
      yes_and (same_numbers a b) (same_divisors a.divisors b.divisors) (numbers-all s.dc s.ac)
      (at-below 64 _ (λ n h. subst T (sym (eq-eqb _ _ (s.divisors n h))) tt))

  -- "Finer only: records the new rule joins were joined before"
  pub finer : T (same_records a b) → T (same_numbers a b)
  unfolding same_records
  finer t = (and_yes (same_numbers a b) (same_divisors a.divisors b.divisors) t).0

-- "whatever else a handed-in record holds": the bitmap and AC place 0
pub whatever-else : (d x y : ℤ) (l : List ℤ) (b c : ℕ) (q : List ℕ) → T (same_records (made d (x ∷ l) b q) (made d (y ∷ l) c q))
whatever-else d x y l b c q = same-all (made d (x ∷ l) b q) (made d (y ∷ l) c q) (record { dc = refl; ac = λ z p h. later z p; divisors = λ n h. refl })
  where
    later : (z : ℕ) → 1 ≤ z → get_or (x ∷ l) z (pos 0) ≡ get_or (y ∷ l) z (pos 0)
    later zero p = absurd (omega arith)
    later (suc z) p = refl

-- an equivalence
pub same_refl : (a : QuantizedBlock) → T (same_records a a)
same_refl a = same-all a a (record { dc = refl; ac = λ z p h. refl; divisors = λ n h. refl })

pub same-sym : (a b : QuantizedBlock) → T (same_records a b) → T (same_records b a)
same-sym a b t =
    let s = same-yes a b t in
    same-all b a (record { dc = sym s.dc; ac = λ z p h. sym (s.ac z p h); divisors = λ n h. sym (s.divisors n h) })

pub same-trans : (a b c : QuantizedBlock) → T (same_records a b) → T (same_records b c) → T (same_records a c)
same-trans a b c t u =
    let s = same-yes a b t in
    let r = same-yes b c u in
    same-all a c (record { dc = s.dc ∙ r.dc; ac = λ z p h. s.ac z p h ∙ r.ac z p h; divisors = λ n h. s.divisors n h ∙ r.divisors n h })
