-- The laws of the search, of any error and count at each percent. Assumes nothing.
use mathlib.Core.Path.{◌≡◌, refl, sym, ap, subst, ◌∙◌}
use mathlib.Core.Bool.{Bool, true, false, cond, ◌&&◌, ◌||◌}
use mathlib.Core.List.{List, [], ◌∷◌, ◌++◌}
use Prim.Native.Nat.{ℕ, zero, suc, ◌+◌, ◌≤◌, ◌<◌}
use native.Mathlib.Decide.{dec_lt}
use native.Mathlib.Numerals.{add-one}
use native.Mathlib.Omega.{arith}
use borrow.Author.Tests.{ltb-true, ltb-false, eqb-true, eqb-false, lt-ltb, le-ltb, eq-eqb, ne_eqb, le-leb, lt-leb}
use lib.Dec.{leb, ltb, eqb}
use Rattle.lists.specs.Tab.{tab}
use Rattle.fewest.specs.Fewest.{Found, NoneGood, Good, good, preferred, better, tried, searched, best}

-- p has fewer nonzeros than q, or as many and no smaller percent
pub record Before (count : ℕ → ℕ) (p q : ℕ) : Type 0 where
  pub fewer : count p ≤ count q
  pub larger : count p ≡ count q → q ≤ p

module _ (count : ℕ → ℕ) where
  preferred-before : (p q : ℕ) → preferred count p q ≡ true → Before count p q
  unfolding preferred
  preferred-before p q e = go (ltb (count p) (count q)) refl (eqb (count p) (count q)) refl e
    where
      go : (a : Bool) → ltb (count p) (count q) ≡ a → (b : Bool) → eqb (count p) (count q) ≡ b → (a || (b && ltb q p)) ≡ true → Before count p q
      go true f b g h = let l = ltb-true (count p) (count q) f in record { fewer = omega arith; larger = λ e. absurd (omega arith) }
      go false f true g h = record { fewer = omega (arith, eqb-true (count p) (count q) g); larger = λ e. omega (arith, ltb-true q p h) }
      go false f false g h = let z : ◌≡◌ {A = ℕ} 0 1 = cc in absurd (omega arith)

  other-before : (p q : ℕ) → preferred count p q ≡ false → Before count q p
  unfolding preferred
  other-before p q e = go (ltb (count p) (count q)) refl (eqb (count p) (count q)) refl e
    where
      go : (a : Bool) → ltb (count p) (count q) ≡ a → (b : Bool) → eqb (count p) (count q) ≡ b → (a || (b && ltb q p)) ≡ false → Before count q p
      go true f b g h = let z : ◌≡◌ {A = ℕ} 0 1 = cc in absurd (omega arith)
      go false f true g h = record { fewer = omega (arith, eqb-true (count p) (count q) g); larger = λ e. omega (arith, ltb-false q p h) }
      go false f false g h =
          let l = ltb-false (count p) (count q) f in
          record { fewer = omega arith; larger = λ e. absurd (eqb-false (count p) (count q) g (sym e)) }

  before-refl : (p : ℕ) → Before count p p
  before-refl p = record { fewer = omega arith; larger = λ e. omega arith }

  before-trans : (p q r : ℕ) → Before count p q → Before count q r → Before count p r
  before-trans p q r a b =
      record {
        fewer = omega (arith, a.fewer, b.fewer);
        larger = λ e. omega (arith, a.larger (omega (arith, a.fewer, b.fewer)), b.larger (omega (arith, a.fewer, b.fewer)));
      }

  -- of a percent found before, which is smaller, as the code compares
  pub preferred-later : (p q : ℕ) → q < p → count p ≤ count q → preferred count p q ≡ true
  unfolding preferred
  preferred-later p q h l = go (ltb (count p) (count q)) refl
    where
      go : (a : Bool) → ltb (count p) (count q) ≡ a → (a || (eqb (count p) (count q) && ltb q p)) ≡ true
      go true f = refl
      go false f = simp (eq-eqb (count p) (count q) (omega (arith, ltb-false (count p) (count q) f)), lt-ltb q p h) refl

  pub preferred-not : (p q : ℕ) → count q < count p → preferred count p q ≡ false
  unfolding preferred
  preferred-not p q l = simp (le-ltb (count p) (count q) (omega arith), ne_eqb (count p) (count q) (λ e. omega arith)) refl

module _ (limit : ℕ) (error count : ℕ → ℕ) where
  -- ---- one percent more at the end of the list

  searched-more : (found : Found) (ps : List ℕ) (p : ℕ) → searched limit error count found (ps ++ (p ∷ [])) ≡ tried limit error count (searched limit error count found ps) p
  unfolding searched
  searched-more found [] p = refl
  searched-more found (q ∷ ps) p = searched-more (tried limit error count found q) ps p

  pub best_none : best limit error count (tab 0 suc) ≡ NoneGood
  unfolding best searched tab
  best_none = refl

  pub best-more : (n : ℕ) → best limit error count (tab (suc n) suc) ≡ tried limit error count (best limit error count (tab n suc)) (suc n)
  unfolding best tab
  best-more n = searched-more NoneGood (tab n suc) (suc n)

  -- ---- what is found among percents 1 to n

  abbrev pub Outcome : ℕ → Found → Type 0
  Outcome n (Good q) = ((1 ≤ q) × (q ≤ n)) × (good limit error q ≡ true) × ((p : ℕ) → 1 ≤ p → p ≤ n → good limit error p ≡ true → Before count q p)
  Outcome n NoneGood = (p : ℕ) → 1 ≤ p → p ≤ n → good limit error p ≡ false

  clash : {A : Type 0} (t : Bool) → t ≡ true → t ≡ false → A
  clash t p q = let z : ◌≡◌ {A = ℕ} 0 1 = cc in absurd (omega arith)

  -- what holds up to n and at n + 1
  up : (P : ℕ → Type 0) (n : ℕ) → ((p : ℕ) → 1 ≤ p → p ≤ n → P p) → P (suc n) → (p : ℕ) → 1 ≤ p → p ≤ suc n → P p
  up P n h e p a b = go (dec_lt n p)
    where
      go : Dec (n < p) → P p
      go (yes l) = let q : suc n ≡ p = omega arith in subst P q e
      go (no l) = h p a (omega arith)

  step : (n : ℕ) (r : Found) → Outcome n r → Outcome (suc n) (tried limit error count r (suc n))
  unfolding tried better
  step n (Good q) h = go (good limit error (suc n)) refl (preferred count (suc n) q) refl
    where
      go : (a : Bool) → good limit error (suc n) ≡ a → (b : Bool) → preferred count (suc n) q ≡ b → Outcome (suc n) (cond a (cond b (Good (suc n)) (Good q)) (Good q))
      go true g true e =
          ((omega arith, omega arith), g, up (λ p. good limit error p ≡ true → Before count (suc n) p) n (λ p a b t. before-trans count (suc n) q p (preferred-before count (suc n) q e) (h.2 p a b t)) (λ t. before-refl count (suc n)))
      go true g false e = ((h.0.0, omega (arith, h.0.1)), h.1, up (λ p. good limit error p ≡ true → Before count q p) n h.2 (λ t. other-before count (suc n) q e))
      go false g b e = ((h.0.0, omega (arith, h.0.1)), h.1, up (λ p. good limit error p ≡ true → Before count q p) n h.2 (λ t. clash _ t g))
  step n NoneGood h = go (good limit error (suc n)) refl
    where
      go : (a : Bool) → good limit error (suc n) ≡ a → Outcome (suc n) (cond a (Good (suc n)) NoneGood)
      go true g = ((omega arith, omega arith), g, up (λ p. good limit error p ≡ true → Before count (suc n) p) n (λ p a b t. clash _ t (h p a b)) (λ t. before-refl count (suc n)))
      go false g = up (λ p. good limit error p ≡ false) n h g

  pub outcome : (n : ℕ) → Outcome n (best limit error count (tab n suc))
  outcome zero = rw best_none (λ p a b. absurd (omega arith))
  outcome (suc n) = rw (best-more n) (step n (best limit error count (tab n suc)) (outcome n))

-- two searches whose errors and counts agree at the percents tried find the same
module _ (limit : ℕ) (e e' c c' : ℕ → ℕ) where
  better-same : (found : Found) (n : ℕ) → Outcome limit e c n found → ((p : ℕ) → 1 ≤ p → p ≤ suc n → c p ≡ c' p) → better c found (suc n) ≡ better c' found (suc n)
  unfolding better preferred
  better-same NoneGood n o h = refl
  better-same (Good q) n o h =
      let here = h (suc n) (omega arith) (omega arith) in
      let there = h q o.0.0 (omega (arith, o.0.1)) in
      λ i. cond (ltb (here i) (there i) || (eqb (here i) (there i) && ltb q (suc n))) (Good (suc n)) (Good q)

  pub best-same : (n : ℕ) → ((p : ℕ) → 1 ≤ p → p ≤ n → e p ≡ e' p) → ((p : ℕ) → 1 ≤ p → p ≤ n → c p ≡ c' p) → best limit e c (tab n suc) ≡ best limit e' c' (tab n suc)
  unfolding tried good
  best-same zero h k = best_none limit e c ∙ sym (best_none limit e' c')
  best-same (suc n) h k =
      let before = best-same n (λ p a b. h p a (omega arith)) (λ p a b. k p a (omega arith)) in
      let found = best limit e c (tab n suc) in
      let error = h (suc n) (omega arith) (omega arith) in
      best-more limit e c n
      ∙ (λ i. cond (leb (error i) limit) (better-same found n (outcome limit e c n) k i) found)
      ∙ ap (λ (f : Found). cond (leb (e' (suc n)) limit) (better c' f (suc n)) f) before
      ∙ sym (best-more limit e' c' n)

-- ---- as the code has it

module _ (limit : ℕ) (error count : ℕ → ℕ) (p : ℕ) where
  pub not_good : (f : Found) → limit < error p → f ≡ tried limit error count f p
  unfolding tried good
  not_good f h = simp (lt-leb (error p) limit h) refl

  pub first_good : error p ≤ limit → Good p ≡ tried limit error count NoneGood p
  unfolding tried good better
  first_good h = simp (le-leb (error p) limit h) refl

  pub better-good : (q : ℕ) → q < p → error p ≤ limit → count p ≤ count q → Good p ≡ tried limit error count (Good q) p
  unfolding tried good better
  better-good q b h l = simp (le-leb (error p) limit h, preferred-later count p q b l) refl

  pub worse-good : (q : ℕ) → error p ≤ limit → count q < count p → Good q ≡ tried limit error count (Good q) p
  unfolding tried good better
  worse-good q h l = simp (le-leb (error p) limit h, preferred-not count p q l) refl

pub found-next : (limit : ℕ) (error count : ℕ → ℕ) (n : ℕ) {f r : Found} → f ≡ best limit error count (tab n suc) →
    r ≡ tried limit error count f (n + 1) → r ≡ best limit error count (tab (n + 1) suc)
found-next limit error count n e t =
    t ∙ (λ i. tried limit error count (e i) (add-one n i)) ∙ sym (best-more limit error count n) ∙ ap (λ (m : ℕ). best limit error count (tab m suc)) (sym (add-one n))
