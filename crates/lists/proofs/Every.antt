-- What holds of every element of a list: where the test says so, at each place, and after a store; and the law of a loop that tests.
-- Assumes nothing.
use Prim.Native.Nat.{ℕ, zero, suc, ◌+◌, ◌<◌, ◌≤◌}
use mathlib.Core.Path.{◌≡◌, refl, sym, ap, subst, ◌∙◌}
use mathlib.Core.Bool.{Bool, true, false, ◌&&◌}
use mathlib.Core.List.{List, [], ◌∷◌, ◌++◌}
use native.Mathlib.Numerals.{add-one}
use lib.Dec.{T}
use lib.ListN.{length, get_or, set, take, replicate}
use lib.Seq.{take_all, take-suc, get_or-take}
use mir.Facts.{and_yes}
use Rattle.lists.specs.Every.{every, Every, every-nil, every-cons}

-- what the test's yes says, also as the code has it
pub every_holds : {A : Type 0} (f : A → Bool) {P : A → Type 0} → ((x : A) → T (f x) → P x) → (xs : List A) → T (every f xs) → Every P xs
unfolding every
every_holds f says [] t = every-nil
every_holds f says (x ∷ xs) t = let both = and_yes (f x) (every f xs) t in every-cons (says x both.0) (every_holds f says xs both.1)

pub every-yes : {A : Type 0} (f : A → Bool) {P : A → Type 0} → ((x : A) → T (f x) → P x) → (xs : List A) {t : Bool} → t ≡ every f xs → t ≡ true → Every P xs
every-yes f says xs e h = every_holds f says xs (subst T (sym h ∙ e) tt)

-- at a place
pub every-at : {A : Type 0} {P : A → Type 0} {xs : List A} → Every P xs → (d : A) → P d → (k : ℕ) → P (get_or xs k d)
every-at every-nil d p k = p
every-at (every-cons q h) d p zero = q
every-at (every-cons q h) d p (suc k) = every-at h d p k

pub every-place : {A : Type 0} {P : A → Type 0} (d : A) (xs : List A) → ((k : ℕ) → P (get_or xs k d)) → Every P xs
every-place d [] h = every-nil
every-place d (x ∷ xs) h = every-cons (h zero) (every-place d xs (λ k. h (suc k)))

-- among the first n
pub every-below : {A : Type 0} (P : A → Type 0) (xs : List A) (n : ℕ) → Every P (take n xs) → (d : A) → P d → (k : ℕ) → k < n → P (get_or xs k d)
every-below P xs n h d p k b = subst P (get_or-take n xs k d b) (every-at h d p k)

-- of equal elements, and after a store
pub every-same : {A : Type 0} (P : A → Type 0) (n : ℕ) (x : A) → P x → Every P (replicate n x)
every-same P zero x p = every-nil
every-same P (suc n) x p = every-cons p (every-same P n x p)

pub every_set : {A : Type 0} {P : A → Type 0} {xs : List A} → Every P xs → (k : ℕ) (x : A) → P x → Every P (set xs k x)
every_set every-nil k x p = every-nil
every_set (every-cons q h) zero x p = every-cons p h
every_set (every-cons q h) (suc k) x p = every-cons q (every_set h k x p)

module _ {A : Type 0} (f : A → Bool) where
  every-end : (xs : List A) (x : A) → every f (xs ++ (x ∷ [])) ≡ (f x && every f xs)
  unfolding every
  every-end [] x = refl
  every-end (y ∷ xs) x = ap (λ (t : Bool). f y && t) (every-end xs x) ∙ swap (f y) (f x) (every f xs)
    where
      swap : (a b c : Bool) → (a && (b && c)) ≡ (b && (a && c))
      swap true b c = refl
      swap false true c = refl
      swap false false c = refl

  -- a loop's test of one element more, and of all
  pub every-next : (d : A) (xs : List A) (k : ℕ) {s t : Bool} → s ≡ every f (take k xs) → k < length xs → t ≡ f (get_or xs k d) → (t && s) ≡ every f (take (k + 1) xs)
  every-next d xs k e b g =
      (λ i. g i && e i) ∙ sym (ap (every f) (ap (λ (n : ℕ). take n xs) (add-one k) ∙ take-suc xs k d b) ∙ every-end (take k xs) (get_or xs k d))

  pub every-all : (xs : List A) (k : ℕ) {s : Bool} → s ≡ every f (take k xs) → length xs ≤ k → s ≡ every f xs
  every-all xs k e h = e ∙ ap (every f) (take_all k xs h)
