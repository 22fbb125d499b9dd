-- Lists by their elements, and the law of a loop that fills one from the front.
-- Assumes nothing.
use Prim.Native.Nat.{ℕ, zero, suc, ◌+◌, ◌-◌, ◌≤◌, ◌<◌}
use mathlib.Core.Path.{◌≡◌, refl, sym, ap, subst, ◌∙◌}
use mathlib.Core.Bool.{Bool, true, false, cond, not}
use mathlib.Core.List.{List, [], ◌∷◌, ◌++◌, map, append_assoc, append-nil}
use native.Mathlib.Decide.{dec_lt}
use native.Mathlib.Nat.{le_of_lt, add-zero, add-suc}
use native.Mathlib.Numerals.{add-one}
use native.Mathlib.Omega.{arith}
use borrow.Author.Tests.{eqb-true, eqb-false, eq-eqb, ne_eqb}
use lib.Dec.{eqb}
use lib.ListN.{length, take, drop, set, get_or, length-set, length-append, length-take, get_or-append, get_or-eq_default}
use lib.Seq.{take_all, take-suc, take-suc-set, get_or_at, ext_get_or, get_or-set_same, get_or-set_other, get_or-drop, get_or-take, get_or-append-add, length-take-le, paste, length-paste, length_paste_head, take-paste, drop-paste}
use Rattle.lists.specs.Tab.{tab}
use Rattle.lists.specs.Below.{below}

pub length-tab : {A : Type 0} (n : ℕ) (f : ℕ → A) → length (tab n f) ≡ n
unfolding tab
length-tab zero f = refl
length-tab (suc n) f = omega (arith, length-append (tab n f) (f n ∷ []), length-tab n f)

-- l has n elements, of which the first k are f's
pub record Filled {A : Type 0} (f : ℕ → A) (n k : ℕ) (l : List A) : Type 0 where
  pub long : length l ≡ n
  pub front : take k l ≡ tab k f

module _ {A : Type 0} (f : ℕ → A) (n : ℕ) where
  pub none : (l : List A) → length l ≡ n → Filled f n 0 l
  unfolding tab
  none l e = record { long = e; front = refl }

  pub more : (k k' : ℕ) (l : List A) (v : A) → Filled f n k l → k < n → k' ≡ k + 1 → v ≡ f k → Filled f n k' (set l k v)
  unfolding tab
  more k k' l v h b s e =
      let i : k < length l = omega (arith, h.long) in
      record { long = length-set l k v ∙ h.long; front = rw (s, add-one, take-suc-set, h.front, e) }

  -- the same count, said in another way
  pub same : (k k' : ℕ) (l : List A) → Filled f n k l → k ≡ k' → Filled f n k' l
  same k k' l h e = rw (← e) h

  pub all : (k : ℕ) (l : List A) → Filled f n k l → n ≤ k → k ≤ n → l ≡ tab n f
  all k l h a b =
      let e : k ≡ n = omega arith in
      sym (take_all k l (omega (arith, h.long))) ∙ h.front ∙ ap (λ (m : ℕ). tab m f) e

-- such a loop's turn, and its end
pub next : {A : Type 0} {f : ℕ → A} {n k : ℕ} {l : List A} {v : A} → Filled f n k l → k < n → v ≡ f k → Filled f n (k + 1) (set l k v)
next {f = f} {n = n} {k = k} {l = l} {v = v} h b e = more f n k (k + 1) l v h b refl e

pub filled : {A : Type 0} {f : ℕ → A} {n k : ℕ} {l : List A} → Filled f n k l → n ≤ k → l ≡ tab n f
filled {f = f} {n = n} {k = k} {l = l} h a =
    let within : k ≤ n = omega (arith, h.long, ap length h.front, length-take k l, length-tab k f) in
    all f n k l h a within

-- a list by its own elements
tab-take : {A : Type 0} (d : A) (l : List A) (k : ℕ) → k ≤ length l → tab k (λ i. get_or l i d) ≡ take k l
unfolding tab
tab-take d l zero h = refl
tab-take d l (suc k) h = rw (tab-take d l k (le_of_lt h), take-suc l k d)

pub tab-get_d : {A : Type 0} (d : A) (l : List A) (n : ℕ) → length l ≡ n → tab n (λ i. get_or l i d) ≡ l
tab-get_d d l n e = tab-take d l n (omega arith) ∙ take_all n l (omega arith)

-- what stands at a place, and two such lists that agree at each place
pub get_d-tab : {A : Type 0} (n : ℕ) (f : ℕ → A) (d : A) (i : ℕ) → i < n → get_or (tab n f) i d ≡ f i
unfolding tab
get_d-tab zero f d i h = absurd (omega arith)
get_d-tab (suc n) f d i h = go (dec_lt i n) (get_d-tab n f d i)
  where
    go : Dec (i < n) → (i < n → get_or (tab n f) i d ≡ f i) → get_or (tab n f ++ (f n ∷ [])) i d ≡ f i
    go (yes b) e = get_or-append (tab n f) (f n ∷ []) d i (omega (arith, length-tab n f)) ∙ e b
    go (no b) e =
        let q : i ≡ n = omega arith in
        rw q (get_or_at (tab n f) (f n) [] d n (length-tab n f))

-- what holds of the default and of each element holds at any place
pub get_d-every : {A : Type 0} (P : A → Type 0) (n : ℕ) (f : ℕ → A) (d : A) → P d → ((i : ℕ) → i < n → P (f i)) → (k : ℕ) → P (get_or (tab n f) k d)
get_d-every P n f d hd h k = go (dec_lt k n)
  where
    go : Dec (k < n) → P (get_or (tab n f) k d)
    go (yes b) = subst P (sym (get_d-tab n f d k b)) (h k b)
    go (no b) =
        let out : length (tab n f) ≤ k = omega (arith, length-tab n f) in
        subst P (sym (get_or-eq_default (tab n f) d out)) hd

pub tab-ext : {A : Type 0} (n : ℕ) (f g : ℕ → A) → ((i : ℕ) → i < n → f i ≡ g i) → tab n f ≡ tab n g
unfolding tab
tab-ext zero f g h = refl
tab-ext (suc n) f g h = rw (tab-ext n f g (λ i b. h i (omega arith)), h n (omega arith))

pub by-elements : {A : Type 0} (n : ℕ) (f : ℕ → A) (d : A) (l : List A) → length l ≡ n → ((i : ℕ) → i < n → get_or l i d ≡ f i) → l ≡ tab n f
by-elements n f d l e h = ext_get_or d l (tab n f) (e ∙ sym (length-tab n f)) (λ i b. h i (omega arith) ∙ sym (get_d-tab n f d i (omega arith)))

map_snoc : {A B : Type 0} (f : A → B) (l : List A) (x : A) → map f (l ++ (x ∷ [])) ≡ map f l ++ (f x ∷ [])
map_snoc f [] x = refl
map_snoc {B = B} f (y ∷ l) x = ap (λ (t : List B). f y ∷ t) (map_snoc f l x)

-- a map of a list, by its elements
pub map-tab : {A B : Type 0} (f : A → B) (g : ℕ → A) (n : ℕ) → map f (tab n g) ≡ tab n (λ i. f (g i))
unfolding tab
map-tab f g zero = refl
map-tab {B = B} f g (suc n) = map_snoc f (tab n g) (g n) ∙ ap (λ (t : List B). t ++ (f (g n) ∷ [])) (map-tab f g n)

pub map-get_d : {A B : Type 0} (f : A → B) (d : A) (l : List A) (n : ℕ) → length l ≡ n → tab n (λ i. f (get_or l i d)) ≡ map f l
map-get_d f d l n e = sym (map-tab f (λ i. get_or l i d) n) ∙ ap (map f) (tab-get_d d l n e)

-- ---- stores

-- one element replaced
pub set-tab : {A : Type 0} (n : ℕ) (f g : ℕ → A) (k : ℕ) (v : A) → k < n → v ≡ g k → ((j : ℕ) → j < n → (j ≡ k → ⊥) → f j ≡ g j) → set (tab n f) k v ≡ tab n g
set-tab n f g k v h e o = by-elements n g v (set (tab n f) k v) (length-set (tab n f) k v ∙ length-tab n f) (λ j b. go j b (eqb j k) refl)
  where
    go : (j : ℕ) → j < n → (t : Bool) → eqb j k ≡ t → get_or (set (tab n f) k v) j v ≡ g j
    go j b true q = let i : j ≡ k = eqb-true j k q in rw i (get_or-set_same (tab n f) k v v (omega (arith, length-tab n f)) ∙ e)
    go j b false q = let i : j ≡ k → ⊥ = eqb-false j k q in get_or-set_other (tab n f) k j v v i ∙ get_d-tab n f v j b ∙ o j b i

infixl 20 ◌▸◌
-- l is l₀ with f's elements stored at the places p 0, p 1, .. p (k - 1), one after the other
pub data Stored {A : Type 0} (p : ℕ → ℕ) (f : ℕ → A) (l₀ : List A) : ℕ → List A → Type 0 where
  begin : Stored p f l₀ 0 l₀
  ◌▸◌ : {k : ℕ} {l m : List A} → Stored p f l₀ k l → m ≡ set l (p k) (f (p k)) → Stored p f l₀ (suc k) m

-- none of those places is i
abbrev pub missed : (ℕ → ℕ) → ℕ → ℕ → Bool
missed p k i = below k (λ j. not (eqb (p j) i))

module _ {A : Type 0} (d : A) (n : ℕ) (p : ℕ → ℕ) (f : ℕ → A) (l₀ : List A) where
  abbrev held : ℕ → ℕ → A
  held k i = cond (missed p k i) (get_or l₀ i d) (f i)

  here : (k i : ℕ) → p k ≡ i → f i ≡ held (suc k) i
  unfolding below
  here k i e = simp (eq-eqb (p k) i e) refl

  there : (k i : ℕ) → (p k ≡ i → ⊥) → held k i ≡ held (suc k) i
  unfolding below
  there k i e = simp (ne_eqb (p k) i e) refl

  one_more : (k : ℕ) → p k < n → {l m : List A} → l ≡ tab n (held k) → m ≡ set l (p k) (f (p k)) → m ≡ tab n (held (suc k))
  one_more k b el em =
      em ∙ ap (λ (t : List A). set t (p k) (f (p k))) el
      ∙ set-tab n (held k) (held (suc k)) (p k) (f (p k)) b (here k (p k) refl) (λ i _ o. there k i (λ q. o (sym q)))

  -- the places reached hold f's elements, the others are as they were
  pub stored-tab : {k : ℕ} {l : List A} → Stored p f l₀ k l → length l₀ ≡ n → ((j : ℕ) → j < k → p j < n) → l ≡ tab n (λ i. cond (missed p k i) (get_or l₀ i d) (f i))
  unfolding below
  stored-tab begin e h = sym (tab-get_d d l₀ n e)
  stored-tab (◌▸◌ {k = k} s em) e h = one_more k (h k (omega arith)) (stored-tab s e (λ j b. h j (omega arith))) em

-- a run of elements that follow those already there
pub tab-append : {A : Type 0} (f : ℕ → A) (k n : ℕ) → tab k f ++ tab n (λ j. f (k + j)) ≡ tab (k + n) f
unfolding tab
tab-append f k zero = append-nil (tab k f) ∙ ap (λ (m : ℕ). tab m f) (sym (add-zero k))
tab-append f k (suc n) =
    sym (append_assoc (tab k f) (tab n (λ j. f (k + j))) (f (k + n) ∷ [])) ∙ ap (λ (l : List _). l ++ (f (k + n) ∷ [])) (tab-append f k n)
    ∙ ap (λ (m : ℕ). tab m f) (sym (add-suc k n))

-- a run of n places pasted behind the first k
pub filled-run : {A : Type 0} (f : ℕ → A) (m k : ℕ) (l ys : List A) (n : ℕ) → Filled f m k l → k + n ≤ m → n ≤ length ys → take n ys ≡ tab n (λ j. f (k + j)) → Filled f m (k + n) (paste l k ys n)
filled-run f m k l ys n h b long e =
    let at : k ≤ length l = omega (arith, h.long) in
    record {
      long = length-paste l k ys n (omega (arith, h.long)) long ∙ h.long;
      front = take-paste l k ys n at long ∙ (λ i. h.front i ++ e i) ∙ tab-append f k n;
    }

pub filled-paste : {A : Type 0} (f : ℕ → A) (m k : ℕ) (l ys : List A) (n : ℕ) → Filled f m k l → k + n ≤ m → ys ≡ tab n (λ j. f (k + j)) → Filled f m (k + n) (paste l k ys n)
filled-paste f m k l ys n h b e =
    let long : length ys ≡ n = ap length e ∙ length-tab n (λ j. f (k + j)) in
    filled-run f m k l ys n h b (omega arith) (take_all n ys (omega arith) ∙ e)

-- what a run of stores has not reached yet
pub get_d-paste : {A : Type 0} (d : A) (l ys : List A) (at n i : ℕ) → at ≤ length l → n ≤ length ys → get_or (paste l at ys n) (at + n + i) d ≡ get_or l (at + n + i) d
get_d-paste d l ys at n i h b =
    sym (get_or-drop (at + n) (paste l at ys n) i d) ∙ ap (λ (t : List _). get_or t i d) (drop-paste l at ys n h b) ∙ get_or-drop (at + n) l i d

-- a list with a run pasted in, place by place
module _ {A : Type 0} (d : A) (l vs : List A) (from n : ℕ) (b : from + n ≤ length l) (c : n ≤ length vs) where
  pub paste-before : {t : ℕ} → t < from → get_or (paste l from vs n) t d ≡ get_or l t d
  paste-before {t} h =
      get_or-append (take from l ++ take n vs) (drop (from + n) l) d t (omega (arith, length_paste_head l from vs n (omega arith) c))
      ∙ get_or-append (take from l) (take n vs) d t (omega (arith, length-take-le from l (omega arith))) ∙ get_or-take from l t d h

  pub paste-run : {t : ℕ} → t < n → get_or (paste l from vs n) (from + t) d ≡ get_or vs t d
  paste-run {t} h =
      get_or-append (take from l ++ take n vs) (drop (from + n) l) d (from + t) (omega (arith, length_paste_head l from vs n (omega arith) c))
      ∙ ap (λ (k : ℕ). get_or (take from l ++ take n vs) (k + t) d) (sym (length-take-le from l (omega arith)))
      ∙ get_or-append-add (take from l) (take n vs) t d ∙ get_or-take n vs t d h

  pub paste-after : {t : ℕ} → from + n ≤ t → get_or (paste l from vs n) t d ≡ get_or l t d
  paste-after {t} h =
      let e : t ≡ from + n + (t - (from + n)) = omega arith in
      ap (λ (k : ℕ). get_or (paste l from vs n) k d) e ∙ get_d-paste d l vs from n (t - (from + n)) (omega arith) c ∙ ap (λ (k : ℕ). get_or l k d) (sym e)
