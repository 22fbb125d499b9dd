-- Loads of a column: entry by entry, from the top, into zeros; and of those entries that a reduced size reads.
-- Assumes nothing.
use mathlib.Core.Path.{◌≡◌, refl, sym, ap, ◌∙◌}
use mathlib.Core.Bool.{Bool, cond}
use mathlib.Core.List.{List, [], ◌∷◌}
use Prim.Native.Nat.{ℕ, ◌+◌, ◌*◌, ◌/◌, ◌<◌, ◌≤◌, zero-le}
use native.Mathlib.Omega.{arith}
use borrow.Author.Tests.{lt-ltb, le-ltb}
use native.Mathlib.Decide.{dec_lt}
use lib.Dec.{ltb}
use lib.ListN.{get_or, set, replicate}
use lib.IntN.{ℤ, pos}
use mir.Syntax.{w32}
use mir.Val.{to_z, of_z}
use Rattle.integers.specs.Fits16.{Fits16}
use Rattle.integers.proofs.Fits16.{fits16-zero, fits16-held, fits16-local}
use Rattle.lists.specs.Every.{Every, every-nil, every-cons}
use Rattle.lists.specs.Tab.{tab}
use Rattle.lists.proofs.Tab.{tab-ext, get_d-tab, set-tab}
use Rattle.block.specs.Block.{column_of, first_rows}

-- the first n entries of column u, and zeros
unfoldable pub loaded : List ℤ → ℕ → ℕ → List ℤ
loaded xs u n = tab 8 (λ v. cond (ltb v n) (get_or xs (8 * v + u) (pos 0)) (pos 0))

-- p holds the first v entries of column u, of which `rows` are loaded
pub record Loaded (xs : List ℤ) (rows u v : ℕ) (p : List ℤ) : Type 0 where
  pub within : v ≤ rows
  pub is : p ≡ loaded xs u v

pub load-none : {xs : List ℤ} {rows u : ℕ} → Loaded xs rows u 0 (replicate 8 (pos 0))
unfolding loaded tab
load-none = record { within = zero-le; is = refl }

other : (v n : ℕ) → (v ≡ n → ⊥) → ltb v n ≡ ltb v (n + 1)
other v n h = go (dec_lt v n)
  where
    go : Dec (v < n) → ltb v n ≡ ltb v (n + 1)
    go (yes l) = lt-ltb v n l ∙ sym (lt-ltb v (n + 1) (omega arith))
    go (no l) = le-ltb v n (omega arith) ∙ sym (le-ltb v (n + 1) (omega arith))

pub load-more : {xs : List ℤ} {rows u v : ℕ} {p : List ℤ} {x : ℤ} → Loaded xs rows u v p → v < rows → rows ≤ 8 → x ≡ get_or xs (8 * v + u) (pos 0) → Loaded xs rows u (v + 1) (set p v x)
unfolding loaded
load-more {xs = xs} {u = u} {v = n} {x = x} h b r f =
    record {
      within = omega arith;
      is =
          ap (λ (l : List ℤ). set l n x) h.is
          ∙ set-tab 8 _ _ n x (omega arith) (f ∙ sym (ap (λ (t : Bool). cond t (get_or xs (8 * n + u) (pos 0)) (pos 0)) (lt-ltb n (n + 1) (omega arith))))
          (λ v b o. ap (λ (t : Bool). cond t (get_or xs (8 * v + u) (pos 0)) (pos 0)) (other v n o));
    }

pub load-all : {xs : List ℤ} {rows u v : ℕ} {p : List ℤ} → Loaded xs rows u v p → rows ≤ v → u < 8 → p ≡ column_of (first_rows rows xs) u
unfolding loaded column_of first_rows
load-all {xs = xs} {rows = n} {u = u} {v = v} h b c =
    let e : v ≡ n = omega arith in
    h.is ∙ ap (loaded xs u) e
    ∙ tab-ext 8 _ _ (λ v b.
    let d : (8 * v + u) / 8 ≡ v = omega arith in
    sym (get_d-tab 64 (λ i. cond (ltb (i / 8) n) (get_or xs i (pos 0)) (pos 0)) (pos 0) (8 * v + u) (omega arith)
    ∙ ap (λ (k : ℕ). cond (ltb k n) (get_or xs (8 * v + u) (pos 0)) (pos 0)) d))

-- the first n numbers of a block, and zeros
unfoldable pub loaded_first : List ℤ → ℕ → List ℤ
loaded_first xs n = tab 64 (λ i. cond (ltb i n) (get_or xs i (pos 0)) (pos 0))

pub first-none : (xs : List ℤ) → replicate 64 (pos 0) ≡ loaded_first xs 0
unfolding loaded_first tab
first-none xs = refl

pub first-more : (xs : List ℤ) {n : ℕ} {p : List ℤ} {x : ℤ} → p ≡ loaded_first xs n → n < 64 → x ≡ get_or xs n (pos 0) → set p n x ≡ loaded_first xs (n + 1)
unfolding loaded_first
first-more xs {n = n} {x = x} h b f =
    ap (λ (l : List ℤ). set l n x) h
    ∙ set-tab 64 _ _ n x b (f ∙ sym (ap (λ (t : Bool). cond t (get_or xs n (pos 0)) (pos 0)) (lt-ltb n (n + 1) (omega arith))))
    (λ i c o. ap (λ (t : Bool). cond t (get_or xs i (pos 0)) (pos 0)) (other i n o))

-- whole rows
pub first-whole : (xs : List ℤ) (r : ℕ) {n : ℕ} {p : List ℤ} → p ≡ loaded_first xs n → n ≡ 8 * r → p ≡ first_rows r xs
unfolding loaded_first first_rows
first-whole xs r {n = n} h e = h ∙ tab-ext 64 _ _ (λ i b. ap (λ (t : Bool). cond t (get_or xs i (pos 0)) (pos 0)) (row i (dec_lt i n)))
  where
    row : (i : ℕ) → Dec (i < n) → ltb i n ≡ ltb (i / 8) r
    row i (yes l) = lt-ltb i n l ∙ sym (lt-ltb (i / 8) r (omega arith))
    row i (no l) = le-ltb i n (omega arith) ∙ sym (le-ltb (i / 8) r (omega arith))

-- rs, held by locals of 32 bits, are the 16-bit numbers zs: each read, or 0
pub data Read16 : List ℤ → List ℤ → Type 0 where
  read-nil : Read16 [] []
  read_one : {r z : ℤ} {rs zs : List ℤ} → (r ≡ z) × Fits16 r → Read16 rs zs → Read16 (to_z w32 (of_z w32 r) ∷ rs) (z ∷ zs)
  read-zero : {rs zs : List ℤ} → Read16 rs zs → Read16 (pos 0 ∷ rs) (pos 0 ∷ zs)

pub read_all : {rs zs : List ℤ} → Read16 rs zs → (rs ≡ zs) × Every Fits16 rs
read_all read-nil = (refl, every-nil)
read_all (read_one e h) =
    let rest = read_all h in
    (λ i. (fits16-held e.1 ∙ e.0) i ∷ rest.0 i, every-cons (fits16-local e.1) rest.1)
read_all (read-zero h) = let rest = read_all h in (λ i. pos 0 ∷ rest.0 i, every-cons fits16-zero rest.1)
