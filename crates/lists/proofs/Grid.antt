-- Numbers in rows: the place of an index and back, what stands at a place, rows below rows and beside rows, and a run written to a row.
-- Assumes nothing.
use mathlib.Core.Path.{◌≡◌, sym, ap, ◌∙◌}
use mathlib.Core.Bool.{Bool, cond}
use mathlib.Core.List.{List, ◌++◌}
use Prim.Native.Nat.{ℕ, zero, suc, ◌+◌, ◌-◌, ◌*◌, ◌/◌, ◌%◌, ◌≤◌, ◌<◌}
use native.Mathlib.Nat.{mul-le-mul_left, mul-add, mod-lt, mod-eq_of_lt, div-eq_of_lt, div-add-mod, div-lt_iff_lt-mul, mul-add-div, mul-add-mod_self_left, mul_comm, mul_assoc}
use native.Mathlib.Decide.{dec_lt}
use native.Mathlib.Omega.{arith}
use borrow.Author.Tests.{lt-ltb, le-ltb}
use lib.Dec.{ltb}
use lib.ListN.{length, get_or}
use lib.Seq.{paste, length-paste}
use Rattle.lists.specs.Tab.{tab}
use Rattle.lists.specs.Grid.{grid, at, beside}
use Rattle.lists.proofs.Tab.{length-tab, get_d-tab, tab-ext, tab-append, paste-before, paste-run, paste-after}

-- ---- the place of an index, and back

module _ (w : ℕ) {x : ℕ} (h : x < w) where
  pub column-of : (y : ℕ) → (w * y + x) % w ≡ x
  column-of y = mul-add-mod_self_left w y x ∙ mod-eq_of_lt h

  pub row_of : (y : ℕ) → (w * y + x) / w ≡ y
  row_of y = mul-add-div (omega arith) y x ∙ ap (λ (k : ℕ). y + k) (div-eq_of_lt h) ∙ omega arith

  pub index : {y n : ℕ} → y < n → w * y + x < w * n
  index {y} {n} b = omega (arith, mul-le-mul_left w b)

-- an index is that of one place
pub placed : (w n i : ℕ) → i < w * n → (i % w < w) × ((i / w < n) × (w * (i / w) + i % w ≡ i))
placed zero n i b = absurd (omega arith)
placed (suc w) n i b = (mod-lt i (omega arith), ((div-lt_iff_lt-mul {k = suc w} {x = i} {y = n} (omega arith)).1 (omega (arith, mul_comm (suc w) n)), div-add-mod i (suc w)))

-- ---- the law: what stands at a place

module _ {A : Type 0} (d : A) (w h : ℕ) (f : ℕ → ℕ → A) where
  pub length-grid : length (grid w h f) ≡ w * h
  unfolding grid
  length-grid = length-tab (w * h) _

  pub grid-at : {x y : ℕ} → x < w → y < h → at d w (grid w h f) x y ≡ f x y
  unfolding grid
  grid-at {x} {y} a b = get_d-tab (w * h) _ d (w * y + x) (index w a b) ∙ (λ i. f (column-of w a y i) (row_of w a y i))

-- two pictures that agree at each place
pub grid-ext : {A : Type 0} (w h : ℕ) (f g : ℕ → ℕ → A) → ((x y : ℕ) → x < w → y < h → f x y ≡ g x y) → grid w h f ≡ grid w h g
unfolding grid
grid-ext w h f g e = tab-ext (w * h) _ _ (λ i b. let p = placed w h i b in e (i % w) (i / w) p.0 p.1.0)

-- ---- rows below rows

pub grid-below : {A : Type 0} (w p q : ℕ) (f : ℕ → ℕ → A) → 0 < w → grid w p f ++ grid w q (λ x y. f x (p + y)) ≡ grid w (p + q) f
unfolding grid
grid-below w p q f h =
    ap (λ (l : List _). tab (w * p) (λ i. f (i % w) (i / w)) ++ l) (tab-ext (w * q) _ _ (λ j b. sym (λ i. f (mul-add-mod_self_left w p j i) (mul-add-div h p j i))))
    ∙ tab-append (λ i. f (i % w) (i / w)) (w * p) (w * q) ∙ ap (λ (n : ℕ). tab n (λ i. f (i % w) (i / w))) (sym (mul-add w p q))

-- ---- rows beside rows

module _ {A : Type 0} (d : A) (p q h : ℕ) (left right : List A) where
  pub beside-left : {x y : ℕ} → x < p → y < h → at d (p + q) (beside d p q h left right) x y ≡ at d p left x y
  unfolding beside
  beside-left {x} {y} a b = grid-at d (p + q) h _ (omega arith) b ∙ ap (λ (t : Bool). cond t (at d p left x y) (at d q right (x - p) y)) (lt-ltb x p a)

  pub beside-right : {x y : ℕ} → x < q → y < h → at d (p + q) (beside d p q h left right) (p + x) y ≡ at d q right x y
  unfolding beside
  beside-right {x} {y} a b =
      let back : p + x - p ≡ x = omega arith in
      grid-at d (p + q) h _ (omega arith) b ∙ ap (λ (t : Bool). cond t (at d p left (p + x) y) (at d q right (p + x - p) y)) (le-ltb (p + x) p (omega arith)) ∙ ap (λ (k : ℕ). at d q right k y) back

-- a picture is what its columns below p show, beside what those from p on show
pub grid-beside : {A : Type 0} (d : A) (p q h : ℕ) (f : ℕ → ℕ → A) → grid (p + q) h f ≡ beside d p q h (grid p h f) (grid q h (λ x y. f (p + x) y))
unfolding beside
grid-beside {A} d p q h f = grid-ext (p + q) h f _ (λ x y a b. sym (go x y a b (dec_lt x p)))
  where
    two : Bool → ℕ → ℕ → A
    two t x y = cond t (at d p (grid p h f) x y) (at d q (grid q h (λ x y. f (p + x) y)) (x - p) y)

    go : (x y : ℕ) → x < p + q → y < h → Dec (x < p) → two (ltb x p) x y ≡ f x y
    go x y a b (yes l) = ap (λ (t : Bool). two t x y) (lt-ltb x p l) ∙ grid-at d p h f l b
    go x y a b (no l) =
        let back : p + (x - p) ≡ x = omega arith in
        ap (λ (t : Bool). two t x y) (le-ltb x p (omega arith)) ∙ grid-at d q h (λ x y. f (p + x) y) (omega arith) b ∙ ap (λ (k : ℕ). f k y) back

-- a·h items of m places are h rows of a items
pub grid-regroup : {A : Type 0} (m a h : ℕ) (f : ℕ → ℕ → A) → 0 < m → grid m (a * h) f ≡ grid (m * a) h (λ i y. f (i % m) (a * y + i / m))
unfolding grid
grid-regroup m a h f b =
    ap (λ (n : ℕ). tab n (λ i. f (i % m) (i / m))) (sym (mul_assoc m a h))
    ∙ tab-ext (m * a * h) _ _ (λ i l.
    let q = i / (m * a) in
    let r = i % (m * a) in
    let e : i ≡ m * (a * q) + r = sym (placed (m * a) h i l).1.1 ∙ ap (λ (k : ℕ). k + r) (mul_assoc m a q) in
    λ j. f ((ap (λ (k : ℕ). k % m) e ∙ mul-add-mod_self_left m (a * q) r) j) ((ap (λ (k : ℕ). k / m) e ∙ mul-add-div b (a * q) r) j))

-- ---- n places of vs written to row y of a list in h rows of w, from column x on

module _ {A : Type 0} (d : A) (w h : ℕ) (l vs : List A) (x y n : ℕ) (e : length l ≡ w * h) (r : x + n ≤ w) (q : y < h) (c : n ≤ length vs) where
  abbrev run : List A
  run = paste l (w * y + x) vs n

  run_fits : w * y + x + n ≤ length l
  run_fits = omega (arith, e, mul-le-mul_left w q)

  pub run_long : length run ≡ w * h
  run_long = length-paste l (w * y + x) vs n run_fits c ∙ e

  pub run_in : {i : ℕ} → i < n → at d w run (x + i) y ≡ get_or vs i d
  run_in {i} a = ap (λ (k : ℕ). get_or run k d) (omega arith) ∙ paste-run d l vs (w * y + x) n run_fits c a

  pub run_out : {i j : ℕ} → i < w → (j ≡ y → x ≤ i → i < x + n → ⊥) → at d w run i j ≡ at d w l i j
  run_out {i} {j} a f = go (dec_lt (w * j + i) (w * y + x)) (dec_lt (w * j + i) (w * y + x + n))
    where
      -- an index of the run is in its row
      row : w * y ≤ w * j + i → w * j + i < w * y + w → j ≡ y
      row p s =
          let t : w * j + i ≡ w * y + (w * j + i - w * y) = omega arith in
          sym (row_of w a j) ∙ ap (λ (k : ℕ). k / w) t ∙ row_of w (omega arith) y

      go : Dec (w * j + i < w * y + x) → Dec (w * j + i < w * y + x + n) → at d w run i j ≡ at d w l i j
      go (yes p) s = paste-before d l vs (w * y + x) n run_fits c p
      go (no p) (no s) = paste-after d l vs (w * y + x) n run_fits c (omega arith)
      go (no p) (yes s) =
          let k = row (omega arith) (omega arith) in
          let m : w * j ≡ w * y = ap (λ (t : ℕ). w * t) k in
          absurd (f k (omega arith) (omega arith))
