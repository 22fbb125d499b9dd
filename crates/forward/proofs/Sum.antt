-- Laws of finite sums, of integers (`sum_to`) and of natural numbers (`total`).
-- Assumes nothing.
use mathlib.Core.Path.{◌≡◌, refl, sym, ap, ap₂, ◌∙◌}
use mathlib.Core.Bool.{Bool, cond}
use mathlib.Core.List.{List, [], ◌∷◌, ◌++◌}
use Prim.Native.Nat.{ℕ, zero, suc, ◌+◌, ◌*◌, ◌/◌, ◌%◌, ◌≤◌, ◌<◌, zero-le}
use native.Mathlib.Decide.{dec_lt}
use native.Mathlib.Nat.{add-zero, add-suc, zero-mul, suc-mul, mul-zero, mul-suc, add-le-add}
use native.Mathlib.Omega.{arith}
use borrow.Author.Tests.{eq-eqb, ne_eqb}
use lib.Dec.{eqb}
use lib.ListN.{length, get_or}
use lib.IntN.{ℤ, pos, nat_abs, ◌+ℤ◌, ◌-ℤ◌, ◌*ℤ◌, +ℤ_assoc, +ℤ_idl, +ℤ_idr, *ℤ-zero, *ℤ_comm}
use lib.Signed.{◌≤ℤ◌, ≤ℤ_refl}
use Rattle.integers.specs.Linear.{dot, weight}
use Rattle.integers.proofs.Difference.{dif-eq, by-dif, differences}
use Rattle.integers.proofs.Order.{≤ℤ-+}
use Rattle.integers.proofs.Ring.{+ℤ-left-comm, *ℤ-+ℤ, nat_abs-+}
use Rattle.lists.specs.Tab.{tab}
use Rattle.lists.proofs.Tab.{length-tab, tab-get_d}
use Rattle.lists.proofs.Grid.{column-of, row_of}
use Rattle.forward.specs.Sum.{sum_to, total}

-- ---- integers

pub sum-ext : (n : ℕ) (f g : ℕ → ℤ) → ((i : ℕ) → i < n → f i ≡ g i) → sum_to n f ≡ sum_to n g
unfolding sum_to
sum-ext zero f g h = refl
sum-ext (suc n) f g h = λ i. sum-ext n f g (λ k b. h k (omega arith)) i +ℤ h n (omega arith) i

pub sum-le : (n : ℕ) (f g : ℕ → ℤ) → ((i : ℕ) → i < n → f i ≤ℤ g i) → sum_to n f ≤ℤ sum_to n g
unfolding sum_to
sum-le zero f g h = ≤ℤ_refl (pos 0)
sum-le (suc n) f g h = ≤ℤ-+ (sum_to n f) (sum_to n g) (f n) (g n) (sum-le n f g (λ i b. h i (omega arith))) (h n (omega arith))

pub sum-add : (m : ℕ) (f g : ℕ → ℤ) → sum_to m f +ℤ sum_to m g ≡ sum_to m (λ i. f i +ℤ g i)
unfolding sum_to
sum-add zero f g = refl
sum-add (suc m) f g = cross (sum_to m f) (f m) (sum_to m g) (g m) ∙ ap (λ (z : ℤ). z +ℤ (f m +ℤ g m)) (sum-add m f g)
  where
    cross : (a b p q : ℤ) → (a +ℤ b) +ℤ (p +ℤ q) ≡ (a +ℤ p) +ℤ (b +ℤ q)
    cross a b p q = simp (+ℤ_assoc, +ℤ-left-comm)

pub sum-sub : (m : ℕ) (f g : ℕ → ℤ) → sum_to m f -ℤ sum_to m g ≡ sum_to m (λ i. f i -ℤ g i)
unfolding sum_to
sum-sub zero f g = refl
sum-sub (suc m) f g = cross (sum_to m f) (f m) (sum_to m g) (g m) ∙ ap (λ (z : ℤ). z +ℤ (f m -ℤ g m)) (sum-sub m f g)
  where
    cross : (a b p q : ℤ) → (a +ℤ b) -ℤ (p +ℤ q) ≡ (a -ℤ p) +ℤ (b -ℤ q)
    cross = by-dif _ λ a b. by-dif _ λ c d. by-dif _ λ e f. by-dif _ λ g h. simp differences (dif-eq _ _ _ _ (omega arith))

pub sum-scale : (c : ℤ) (m : ℕ) (f : ℕ → ℤ) → c *ℤ sum_to m f ≡ sum_to m (λ i. c *ℤ f i)
unfolding sum_to
sum-scale c zero f = *ℤ-zero c
sum-scale c (suc m) f = *ℤ-+ℤ c (sum_to m f) (f m) ∙ ap (λ (z : ℤ). z +ℤ c *ℤ f m) (sum-scale c m f)

sum-zero : (m : ℕ) → sum_to m (λ i. pos 0) ≡ pos 0
unfolding sum_to
sum-zero zero = refl
sum-zero (suc m) = +ℤ_idr (sum_to m (λ i. pos 0)) ∙ sum-zero m

-- the order of two sums
pub sum-swap : (m n : ℕ) (f : ℕ → ℕ → ℤ) → sum_to m (λ i. sum_to n (f i)) ≡ sum_to n (λ j. sum_to m (λ i. f i j))
unfolding sum_to
sum-swap zero n f = sym (sum-zero n)
sum-swap (suc m) n f = ap (λ (z : ℤ). z +ℤ sum_to n (f m)) (sum-swap m n f) ∙ sum-add n (λ j. sum_to m (λ i. f i j)) (f m)

sum-append : (f : ℕ → ℤ) (a b : ℕ) → sum_to (a + b) f ≡ sum_to a f +ℤ sum_to b (λ j. f (a + j))
unfolding sum_to
sum-append f a zero = ap (λ (n : ℕ). sum_to n f) (add-zero a) ∙ sym (+ℤ_idr (sum_to a f))
sum-append f a (suc b) =
    ap (λ (n : ℕ). sum_to n f) (add-suc a b) ∙ ap (λ (s : ℤ). s +ℤ f (a + b)) (sum-append f a b) ∙ +ℤ_assoc (sum_to a f) (sum_to b (λ j. f (a + j))) (f (a + b))

-- row by row
pub sum_rows : (f : ℕ → ℤ) (m n : ℕ) → sum_to (m * n) f ≡ sum_to m (λ y. sum_to n (λ x. f (y * n + x)))
unfolding sum_to
sum_rows f zero n = ap (λ (k : ℕ). sum_to k f) (zero-mul n)
sum_rows f (suc m) n =
    ap (λ (k : ℕ). sum_to k f) (suc-mul m n) ∙ sum-append f (m * n) n ∙ ap (λ (s : ℤ). s +ℤ sum_to n (λ x. f (m * n + x))) (sum_rows f m n)

-- the 64 places of a block, row by row
pub sum-block : (f : ℕ → ℕ → ℕ → ℤ) → sum_to 8 (λ y. sum_to 8 (λ x. f x y (8 * y + x))) ≡ sum_to 64 (λ i. f (i % 8) (i / 8) i)
sum-block f = sum-ext 8 _ _ (λ y h. sum-ext 8 _ _ (λ x l. place y x l)) ∙ sym (sum_rows (λ i. f (i % 8) (i / 8) i) 8 8)
  where
    place : (y x : ℕ) → x < 8 → f x y (8 * y + x) ≡ f ((y * 8 + x) % 8) ((y * 8 + x) / 8) (y * 8 + x)
    place y x h =
        let column : (y * 8 + x) % 8 ≡ x = omega arith in
        let row : (y * 8 + x) / 8 ≡ y = omega arith in
        let index : 8 * y + x ≡ y * 8 + x = omega arith in
        λ i. f (sym column i) (sym row i) (index i)

-- k times one sum against another, with the same factors d
pub sums_apart : (m : ℕ) (k : ℤ) (a b d : ℕ → ℤ) → k *ℤ sum_to m (λ i. a i *ℤ d i) -ℤ sum_to m (λ i. b i *ℤ d i) ≡ sum_to m (λ i. (k *ℤ a i -ℤ b i) *ℤ d i)
sums_apart m k a b d =
    ap (λ (z : ℤ). z -ℤ sum_to m (λ i. b i *ℤ d i)) (sum-scale k m (λ i. a i *ℤ d i))
    ∙ sum-sub m (λ i. k *ℤ (a i *ℤ d i)) (λ i. b i *ℤ d i)
    ∙ sum-ext m _ _ (λ i h. gather k (a i) (b i) (d i))
  where
    gather : (k a b d : ℤ) → k *ℤ (a *ℤ d) -ℤ b *ℤ d ≡ (k *ℤ a -ℤ b) *ℤ d
    gather = by-dif _ λ a b. by-dif _ λ c d. by-dif _ λ e f. by-dif _ λ g h. simp differences (dif-eq _ _ _ _ (omega arith))

-- one term alone, c times
pub sum-at : (m : ℕ) (f : ℕ → ℤ) (c : ℤ) (p : ℕ) → p < m → sum_to m (λ i. f i *ℤ cond (eqb p i) c (pos 0)) ≡ f p *ℤ c
unfolding sum_to
sum-at zero f c p h = absurd (omega arith)
sum-at (suc m) f c p h = go (dec_lt p m) (sum-at m f c p)
  where
    none : (k : ℕ) → k ≤ p → sum_to k (λ i. f i *ℤ cond (eqb p i) c (pos 0)) ≡ pos 0
    none zero b = refl
    none (suc k) b =
        ap₂ ◌+ℤ◌ (none k (omega arith)) (ap (λ (t : Bool). f k *ℤ cond t c (pos 0)) (ne_eqb p k (λ e. omega arith)) ∙ *ℤ-zero (f k))

    go : Dec (p < m) → (p < m → sum_to m (λ i. f i *ℤ cond (eqb p i) c (pos 0)) ≡ f p *ℤ c) →
        sum_to m (λ i. f i *ℤ cond (eqb p i) c (pos 0)) +ℤ f m *ℤ cond (eqb p m) c (pos 0) ≡ f p *ℤ c
    go (yes l) r =
        ap₂ ◌+ℤ◌ (r l) (ap (λ (t : Bool). f m *ℤ cond t c (pos 0)) (ne_eqb p m (λ e. omega arith)) ∙ *ℤ-zero (f m)) ∙ +ℤ_idr (f p *ℤ c)
    go (no l) r =
        let e : m ≡ p = omega arith in
        ap₂ ◌+ℤ◌ (none m (omega arith)) (ap (λ (t : Bool). f m *ℤ cond t c (pos 0)) (eq-eqb p m (sym e)) ∙ ap (λ (k : ℕ). f k *ℤ c) e) ∙ +ℤ_idl (f p *ℤ c)

-- a product of lists, by their elements
dot-snoc : (u v : List ℤ) (a b : ℤ) → length u ≡ length v → dot (u ++ (a ∷ [])) (v ++ (b ∷ [])) ≡ dot u v +ℤ a *ℤ b
unfolding dot
dot-snoc [] [] a b e = +ℤ_idr (a *ℤ b) ∙ sym (+ℤ_idl (a *ℤ b))
dot-snoc [] (y ∷ v) a b e = absurd (omega arith)
dot-snoc (x ∷ u) [] a b e = absurd (omega arith)
dot-snoc (x ∷ u) (y ∷ v) a b e =
    ap (λ (z : ℤ). x *ℤ y +ℤ z) (dot-snoc u v a b (omega arith)) ∙ sym (+ℤ_assoc (x *ℤ y) (dot u v) (a *ℤ b))

pub dot-tab : (m : ℕ) (f g : ℕ → ℤ) → dot (tab m f) (tab m g) ≡ sum_to m (λ i. f i *ℤ g i)
unfolding sum_to tab dot
dot-tab zero f g = refl
dot-tab (suc m) f g =
    dot-snoc (tab m f) (tab m g) (f m) (g m) (length-tab m f ∙ sym (length-tab m g)) ∙ ap (λ (z : ℤ). z +ℤ f m *ℤ g m) (dot-tab m f g)

-- entry k of row j of a matrix, and a row's product with a list
unfoldable pub gain_of : List (List ℤ) → ℕ → ℕ → ℤ
gain_of rows j k = get_or (get_or rows j []) k (pos 0)

pub row-sum : (rows : List (List ℤ)) (j m : ℕ) (f : ℕ → ℤ) → length (get_or rows j []) ≡ m → dot (get_or rows j []) (tab m f) ≡ sum_to m (λ k. f k *ℤ gain_of rows j k)
unfolding gain_of
row-sum rows j m f e =
    ap (λ (row : List ℤ). dot row (tab m f)) (sym (tab-get_d (pos 0) (get_or rows j []) m e))
    ∙ dot-tab m (gain_of rows j) f ∙ sum-ext m _ _ (λ k b. *ℤ_comm (gain_of rows j k) (f k))

-- ---- natural numbers

pub sum-pos : (m : ℕ) (f : ℕ → ℕ) → sum_to m (λ i. pos (f i)) ≡ pos (total m f)
unfolding sum_to total
sum-pos zero f = refl
sum-pos (suc m) f = ap (λ (z : ℤ). z +ℤ pos (f m)) (sum-pos m f)

pub nat_abs-sum : (m : ℕ) (f : ℕ → ℤ) → nat_abs (sum_to m f) ≤ total m (λ i. nat_abs (f i))
unfolding sum_to total
nat_abs-sum zero f = zero-le
nat_abs-sum (suc m) f = omega (arith, nat_abs-+ (sum_to m f) (f m), nat_abs-sum m f)

pub total_ext : (m : ℕ) (f g : ℕ → ℕ) → ((i : ℕ) → i < m → f i ≡ g i) → total m f ≡ total m g
unfolding total
total_ext zero f g h = refl
total_ext (suc m) f g h = ap₂ ◌+◌ (total_ext m f g (λ i b. h i (omega arith))) (h m (omega arith))

pub total-le : (m : ℕ) (f g : ℕ → ℕ) → ((i : ℕ) → i < m → f i ≤ g i) → total m f ≤ total m g
unfolding total
total-le zero f g h = zero-le
total-le (suc m) f g h = add-le-add (total-le m f g (λ i b. h i (omega arith))) (h m (omega arith))

-- no term is more than the sum
pub total-term : (m : ℕ) (f : ℕ → ℕ) (p : ℕ) → p < m → f p ≤ total m f
unfolding total
total-term zero f p h = absurd (omega arith)
total-term (suc m) f p h = go (dec_lt p m) (total-term m f p)
  where
    go : Dec (p < m) → (p < m → f p ≤ total m f) → f p ≤ total m f + f m
    go (yes l) r = omega (arith, r l)
    go (no l) r = let e : m ≡ p = omega arith in rw e (omega arith)

pub total-add : (m : ℕ) (f g : ℕ → ℕ) → total m f + total m g ≡ total m (λ i. f i + g i)
unfolding total
total-add zero f g = refl
total-add (suc m) f g = omega (arith, total-add m f g)

pub total-scale : (c m : ℕ) (f : ℕ → ℕ) → c * total m f ≡ total m (λ i. c * f i)
unfolding total
total-scale c zero f = omega arith
total-scale c (suc m) f = omega (arith, total-scale c m f)

pub total-const : (m c : ℕ) → total m (λ i. c) ≡ m * c
unfolding total
total-const zero c = omega arith
total-const (suc m) c = omega (arith, total-const m c)

pub total-append : (f : ℕ → ℕ) (a b : ℕ) → total (a + b) f ≡ total a f + total b (λ j. f (a + j))
unfolding total
total-append f a zero = ap (λ (n : ℕ). total n f) (add-zero a) ∙ sym (add-zero (total a f))
total-append f a (suc b) = ap (λ (n : ℕ). total n f) (add-suc a b) ∙ omega (arith, total-append f a b)

-- row by row
pub total-rows : (f : ℕ → ℕ) (a h : ℕ) → total (a * h) f ≡ total h (λ y. total a (λ x. f (a * y + x)))
unfolding total
total-rows f a zero = ap (λ (k : ℕ). total k f) (mul-zero a)
total-rows f a (suc h) = ap (λ (k : ℕ). total k f) (mul-suc a h) ∙ total-append f (a * h) a ∙ ap (λ (s : ℕ). s + total a (λ x. f (a * h + x))) (total-rows f a h)

-- the places of h rows of w, row by row
pub total-grid : (w h : ℕ) (g : ℕ → ℕ → ℕ) → total (w * h) (λ i. g (i % w) (i / w)) ≡ total h (λ y. total w (λ x. g x y))
total-grid w h g = total-rows (λ i. g (i % w) (i / w)) w h ∙ total_ext h _ _ (λ y b. total_ext w _ _ (λ x a. λ i. g (column-of w a y i) (row_of w a y i)))

-- rows of p terms beside rows of q
pub total-beside : (f : ℕ → ℕ) (p q h : ℕ) → total ((p + q) * h) f ≡ total h (λ y. total p (λ x. f ((p + q) * y + x))) + total h (λ y. total q (λ x. f ((p + q) * y + (p + x))))
total-beside f p q h =
    total-rows f (p + q) h ∙ total_ext h _ _ (λ y b. total-append (λ x. f ((p + q) * y + x)) p q)
    ∙ sym (total-add h (λ y. total p (λ x. f ((p + q) * y + x))) (λ y. total q (λ x. f ((p + q) * y + (p + x)))))

-- the absolute values of a list, by its elements
weight-snoc : (u : List ℤ) (a : ℤ) → weight (u ++ (a ∷ [])) ≡ weight u + nat_abs a
unfolding weight
weight-snoc [] a = omega arith
weight-snoc (x ∷ u) a = omega (arith, weight-snoc u a)

pub weight-tab : (m : ℕ) (f : ℕ → ℤ) → weight (tab m f) ≡ total m (λ i. nat_abs (f i))
unfolding total tab weight
weight-tab zero f = refl
weight-tab (suc m) f = weight-snoc (tab m f) (f m) ∙ ap (λ (k : ℕ). k + nat_abs (f m)) (weight-tab m f)

-- the order of two sums
pub total-swap : (m n : ℕ) (f : ℕ → ℕ → ℕ) → total m (λ i. total n (f i)) ≡ total n (λ j. total m (λ i. f i j))
unfolding total
total-swap zero n f = sym (total-const n 0 ∙ omega arith)
total-swap (suc m) n f = ap (λ (k : ℕ). k + total n (f m)) (total-swap m n f) ∙ total-add n (λ j. total m (λ i. f i j)) (f m)
