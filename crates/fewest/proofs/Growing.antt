-- The errors and counts of 200 percents, of which the first n grow with each block. Assumes nothing.
use mathlib.Core.Path.{◌≡◌, refl, sym, ap, ◌∙◌}
use mathlib.Core.Bool.{Bool, true, false, cond}
use mathlib.Core.List.{List}
use Prim.Native.Nat.{ℕ, zero, suc, ◌+◌, ◌≤◌, ◌<◌, zero-le}
use native.Mathlib.Decide.{dec_lt, ℕ_discrete}
use native.Mathlib.Omega.{arith}
use borrow.Author.Tests.{lt-ltb, le-ltb}
use lib.Dec.{ltb}
use lib.ListN.{length, get_or, set, length-set, replicate, get_or-map}
use lib.Seq.{get_or-set_same, get_or-set_other}
use Rattle.lists.proofs.Tab.{length-tab, get_d-tab, get_d-every, tab-ext, by-elements}
use Rattle.std.proofs.lemmas.List.{map-set, length-map}
use Rattle.fewest.specs.Blocks.{first_of, grown, errors_in, counts_in}
use Rattle.fewest.specs.declared.Tried.{Tried}

-- ---- a loop over the percents: the first k of 200 numbers grew

pub record Grew (f : ℕ → ℕ) (l₀ : List ℕ) (k : ℕ) (l : List ℕ) : Type 0 where
  pub long : length l ≡ 200
  pub place : (p : ℕ) → p < 200 → get_or l p 0 ≡ get_or l₀ p 0 + cond (ltb p k) (f p) 0

pub grew_none : (f : ℕ → ℕ) (l : List ℕ) → length l ≡ 200 → Grew f l 0 l
grew_none f l e = record { long = e; place = λ p b. none p }
  where
    none : (p : ℕ) → get_or l p 0 ≡ get_or l p 0 + cond (ltb p 0) (f p) 0
    none p = simp (le-ltb p 0 (omega arith)) (omega arith)

module _ {f : ℕ → ℕ} {l₀ : List ℕ} {k : ℕ} {l : List ℕ} (g : Grew f l₀ k l) where
  -- a number not yet reached
  pub grew-ahead : k < 200 → get_or l k 0 ≡ get_or l₀ k 0
  grew-ahead b = g.place k b ∙ past
    where
      past : get_or l₀ k 0 + cond (ltb k k) (f k) 0 ≡ get_or l₀ k 0
      past = simp (le-ltb k k (omega arith)) (omega arith)

  pub grew-more : k < 200 → {v : ℕ} → v ≡ get_or l k 0 + f k → Grew f l₀ (k + 1) (set l k v)
  grew-more b {v} e = record { long = length-set l k v ∙ g.long; place = λ p h. go p h (ℕ_discrete p k) }
    where
      go : (p : ℕ) → p < 200 → Dec (p ≡ k) → get_or (set l k v) p 0 ≡ get_or l₀ p 0 + cond (ltb p (k + 1)) (f p) 0
      go p h (yes q) =
          rw q
          (get_or-set_same l k v 0 (omega (arith, g.long)) ∙ e ∙ ap (λ (n : ℕ). n + f k) (grew-ahead b)
          ∙ ap (λ (t : Bool). get_or l₀ k 0 + cond t (f k) 0) (sym (lt-ltb k (k + 1) (omega arith))))
      go p h (no q) = get_or-set_other l k p v 0 q ∙ g.place p h ∙ ap (λ (t : Bool). get_or l₀ p 0 + cond t (f p) 0) (same (dec_lt p k))
        where
          same : Dec (p < k) → ltb p k ≡ ltb p (k + 1)
          same (yes s) = lt-ltb p k s ∙ sym (lt-ltb p (k + 1) (omega arith))
          same (no s) = le-ltb p k (omega arith) ∙ sym (le-ltb p (k + 1) (omega arith))

  pub grew-all : {n : ℕ} → k ≡ n → l ≡ grown n f l₀
  unfolding grown
  grew-all {n} e = by-elements 200 _ 0 l g.long (λ p b. g.place p b ∙ ap (λ (m : ℕ). get_or l₀ p 0 + cond (ltb p m) (f p) 0) e)

pub grown-long : (n : ℕ) (f : ℕ → ℕ) (l : List ℕ) → length (grown n f l) ≡ 200
unfolding grown
grown-long n f l = length-tab 200 _

-- ---- a loop over the blocks: after k of them, the first n percents have the sums of k terms

pub first-long : (n : ℕ) (f : ℕ → ℕ) → length (first_of n f) ≡ 200
unfolding first_of
first-long n f = length-tab 200 _

pub first-at : (n : ℕ) (f : ℕ → ℕ) (p : ℕ) → p < n → n ≤ 200 → get_or (first_of n f) p 0 ≡ f p
unfolding first_of
first-at n f p b h = get_d-tab 200 _ 0 p (omega arith) ∙ ap (λ (t : Bool). cond t (f p) 0) (lt-ltb p n b)

pub first-ext : (n : ℕ) (f g : ℕ → ℕ) → ((p : ℕ) → p < n → f p ≡ g p) → first_of n f ≡ first_of n g
unfolding first_of
first-ext n f g h = tab-ext 200 _ _ (λ p b. go p (dec_lt p n))
  where
    go : (p : ℕ) → Dec (p < n) → cond (ltb p n) (f p) 0 ≡ cond (ltb p n) (g p) 0
    go p (yes l) = ap (λ (v : ℕ). cond (ltb p n) v 0) (h p l)
    go p (no l) = simp (le-ltb p n (omega arith)) refl

pub first-none : (n : ℕ) (f : ℕ → ℕ) → ((p : ℕ) → f p ≡ 0) → ◌≡◌ {A = List ℕ} (replicate 200 0) (first_of n f)
unfolding first_of
first-none n f h = by-elements 200 _ 0 (replicate 200 0) refl (λ p b. zeros 200 p ∙ sym (zero-at (ltb p n) (f p) (h p)))
  where
    zeros : (m p : ℕ) → ◌≡◌ {A = ℕ} (get_or (replicate m 0) p 0) 0
    zeros zero p = refl
    zeros (suc m) zero = refl
    zeros (suc m) (suc p) = zeros m p

    zero-at : (t : Bool) (v : ℕ) → v ≡ 0 → cond t v 0 ≡ 0
    zero-at true v e = e
    zero-at false v e = refl

pub first_more : (n : ℕ) (f g h : ℕ → ℕ) → ((p : ℕ) → h p ≡ f p + g p) → grown n g (first_of n f) ≡ first_of n h
unfolding grown first_of
first_more n f g h e =
    tab-ext 200 _ _ (λ p b. ap (λ (v : ℕ). v + cond (ltb p n) (g p) 0) (get_d-tab 200 (λ q. cond (ltb q n) (f q) 0) 0 p b) ∙ together (ltb p n) (f p) (g p) (h p) (e p))
  where
    together : (t : Bool) (a b c : ℕ) → c ≡ a + b → cond t a 0 + cond t b 0 ≡ cond t c 0
    together true a b c e = sym e
    together false a b c e = refl

-- numbers that are each at most m
pub first-most : (n : ℕ) (f : ℕ → ℕ) (m : ℕ) → ((p : ℕ) → f p ≤ m) → (p : ℕ) → get_or (first_of n f) p 0 ≤ m
unfolding first_of
first-most n f m h = get_d-every (λ v. v ≤ m) 200 _ 0 zero-le (λ p b. go (ltb p n) p)
  where
    go : (t : Bool) (p : ℕ) → cond t (f p) 0 ≤ m
    go true p = h p
    go false p = zero-le

pub grown-ext : (n : ℕ) (f g : ℕ → ℕ) (l : List ℕ) → ((p : ℕ) → f p ≡ g p) → grown n f l ≡ grown n g l
unfolding grown
grown-ext n f g l h = tab-ext 200 _ _ (λ p b. ap (λ (v : ℕ). get_or l p 0 + cond (ltb p n) v 0) (h p))

-- ---- errors and counts, side by side

abbrev pub zero-tried : Tried
zero-tried = record { error = 0; count = 0 }

module _ (all : List Tried) where
  pub error-in : (p : ℕ) → get_or (errors_in all) p 0 ≡ (get_or all p zero-tried).error
  unfolding errors_in
  error-in p = get_or-map (λ (t : Tried). t.error) all p zero-tried

  pub count-in : (p : ℕ) → get_or (counts_in all) p 0 ≡ (get_or all p zero-tried).count
  unfolding counts_in
  count-in p = get_or-map (λ (t : Tried). t.count) all p zero-tried

  pub errors-set : (p : ℕ) (t : Tried) → errors_in (set all p t) ≡ set (errors_in all) p t.error
  unfolding errors_in
  errors-set p t = map-set (λ (t : Tried). t.error) all p t

  pub counts-set : (p : ℕ) (t : Tried) → counts_in (set all p t) ≡ set (counts_in all) p t.count
  unfolding counts_in
  counts-set p t = map-set (λ (t : Tried). t.count) all p t

  pub errors-long : length (errors_in all) ≡ length all
  unfolding errors_in
  errors-long = length-map all (λ (t : Tried). t.error)

  pub counts-long : length (counts_in all) ≡ length all
  unfolding counts_in
  counts-long = length-map all (λ (t : Tried). t.count)

-- none tried yet
pub none-tried : (errors_in (replicate 200 zero-tried) ≡ replicate 200 0) × (counts_in (replicate 200 zero-tried) ≡ replicate 200 0)
unfolding errors_in counts_in
none-tried = (refl, refl)
