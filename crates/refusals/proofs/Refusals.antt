-- The status of a call by its tests, and what a lent place holds by the status. Assumes nothing.
use mathlib.Core.Path.{◌≡◌, refl, sym, ap, ◌∙◌}
use mathlib.Core.Bool.{Bool, true, false, cond, ◌&&◌}
use mathlib.Core.List.{List, [], ◌∷◌, ◌++◌}
use Prim.Native.Nat.{ℕ, zero, suc}
use native.Mathlib.Omega.{arith}
use native.Mathlib.Decide.{ℕ_discrete}
use borrow.Author.Tests.{eq-eqb, ne_eqb}
use lib.Dec.{T, eqb, ltb, ltb→lt}
use mir.Facts.{and_yes}
use Rattle.refusals.specs.Refusals.{Test, status, written}

-- a length is n, or not
pub has : {a n : ℕ} → a ≡ n → eqb a n ≡ true
has {a} {n} e = eq-eqb a n e

pub lacks : {a n : ℕ} → (a ≡ n → ⊥) → eqb a n ≡ false
lacks {a} {n} h = ne_eqb a n h

-- facts of a call's tests, one after the other
infixr 40 ◌then◌
abbrev pub ◌then◌ : {A B : Type 0} → A → B → A × B
◌then◌ a b = (a, b)

-- every test passes
abbrev pub Passed : List Test → Type 0
Passed [] = Unit {0}
Passed (t ∷ ts) = (t.passes ≡ true) × Passed ts

-- the k-th test, counted from 0, is the first that fails, and its number is not 0
abbrev pub Failed : ℕ → List Test → Type 0
Failed k [] = ⊥
Failed zero (t ∷ ts) = (t.passes ≡ false) × T (ltb 0 t.number)
Failed (suc k) (t ∷ ts) = (t.passes ≡ true) × Failed k ts

abbrev pub number_of : ℕ → List Test → ℕ
number_of k [] = 0
number_of zero (t ∷ ts) = t.number
number_of (suc k) (t ∷ ts) = number_of k ts

pub passed : (ts : List Test) → Passed ts → 0 ≡ status ts
unfolding status
passed [] h = refl
passed (t ∷ ts) h = passed ts h.1 ∙ sym (ap (λ (p : Bool). cond p (status ts) t.number) h.0)

pub failed : (k : ℕ) (ts : List Test) → Failed k ts → number_of k ts ≡ status ts
unfolding status
failed k [] h = absurd h
failed zero (t ∷ ts) h = sym (ap (λ (p : Bool). cond p (status ts) t.number) h.0)
failed (suc k) (t ∷ ts) h = failed k ts h.1 ∙ sym (ap (λ (p : Bool). cond p (status ts) t.number) h.0)

not-0 : (k : ℕ) (ts : List Test) → Failed k ts → T (ltb 0 (number_of k ts))
not-0 k [] h = absurd h
not-0 zero (t ∷ ts) h = h.1
not-0 (suc k) (t ∷ ts) h = not-0 k ts h.1

module _ {A : Type 0} (value held : A) where
  pub kept : {s : ℕ} → (s ≡ 0 → ⊥) → held ≡ written s value held
  unfolding written
  kept {s} h = simp (ne_eqb s 0 h) refl

  pub wrote : {s : ℕ} {x : A} → s ≡ 0 → x ≡ value → x ≡ written s value held
  unfolding written
  wrote {s} e v = simp e v

  module _ (ts : List Test) where
    -- what a call leaves where the k-th test fails, and where every test passes
    pub refused : (k : ℕ) → Failed k ts → (number_of k ts ≡ status ts) × (held ≡ written (number_of k ts) value held)
    refused k h = (failed k ts h, kept (λ e. omega (arith, ltb→lt 0 (number_of k ts) (not-0 k ts h))))

    pub accepted : {x : A} → Passed ts → x ≡ value → (0 ≡ status ts) × (x ≡ written 0 value held)
    accepted h e = (passed ts h, wrote refl e)

    -- what a call left whose tests its caller knows to pass
    pub left : {s : ℕ} {x : A} → Passed ts → (s ≡ status ts) × (x ≡ written s value held) → x ≡ value
    unfolding written
    left h e = e.1 ∙ ap (λ (n : ℕ). written n value held) (e.0 ∙ sym (passed ts h))

    -- an answer that holds its status and a value
    pub answered : {B : Type 0} (make : ℕ → A → B) {s : ℕ} {x : A} → (s ≡ status ts) × (x ≡ written s value held) → make s x ≡ make (status ts) (written (status ts) value held)
    answered make {s} e = ap (make s) e.1 ∙ ap (λ (n : ℕ). make n (written n value held)) e.0

-- no test has the number 0
abbrev pub numbered : List Test → Bool
numbered [] = true
numbered (t ∷ ts) = ltb 0 t.number && numbered ts

passed-step : (p : Bool) (n s : ℕ) {P : Type 0} → T (ltb 0 n) → (s ≡ 0 → P) → cond p s n ≡ 0 → (p ≡ true) × P
passed-step true n s h f e = (refl, f e)
passed-step false n s h f e = absurd (omega (arith, ltb→lt 0 n h))

-- where nothing is refused, every test passes
pub passed-all : (ts : List Test) → T (numbered ts) → status ts ≡ 0 → Passed ts
unfolding status
passed-all [] h e = tt
passed-all (t ∷ ts) h e =
    let both = and_yes (ltb 0 t.number) (numbered ts) h in
    passed-step t.passes t.number (status ts) both.0 (passed-all ts both.1) e

after-step : (p : Bool) (n s r u : ℕ) → T (ltb 0 n) → written s u s ≡ r → written (cond p s n) u (cond p s n) ≡ cond p r n
after-step true n s r u h e = e
after-step false n s r u h e = sym (kept u n (λ z. omega (arith, ltb→lt 0 n h)))

-- tests after tests: the later ones count where none of the first fails
append : (ts us : List Test) → T (numbered ts) → written (status ts) (status us) (status ts) ≡ status (ts ++ us)
unfolding status written
append [] us h = refl
append (t ∷ ts) us h =
    let both = and_yes (ltb 0 t.number) (numbered ts) h in
    after-step t.passes t.number (status ts) (status (ts ++ us)) (status us) both.0 (append ts us both.1)

-- a call that hands its arguments on to one with the tests ts, which answers s, and has further tests us
pub after : (ts us : List Test) → T (numbered ts) → {s r : ℕ} → s ≡ status ts → r ≡ written s (status us) s → r ≡ status (ts ++ us)
after ts us n e f = f ∙ ap (λ (x : ℕ). written x (status us) x) e ∙ append ts us n

-- where such a call is not refused, its further tests pass
pub none_after : (s u : ℕ) → written s u s ≡ 0 → u ≡ 0
none_after s u e = by (ℕ_discrete s 0)
  where
    by : Dec (s ≡ 0) → u ≡ 0
    by (yes z) = wrote u s z refl ∙ e
    by (no h) = absurd (h (kept u s h ∙ e))

-- what holds of the value and of what was held holds of what is written
by-test : {A : Type 0} (P : A → Type 0) (t : Bool) (value held : A) → P value → P held → P (cond t value held)
by-test P true value held p q = p
by-test P false value held p q = q

pub either : {A : Type 0} (P : A → Type 0) (s : ℕ) (value held : A) → P value → P held → P (written s value held)
unfolding written
either P s value held p q = by-test P (eqb s 0) value held p q
