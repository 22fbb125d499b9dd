-- Bytes stored one part after another.
-- Assumes nothing.
use mathlib.Core.Path.{◌≡◌, refl, sym, ap, subst, ◌∙◌}
use mathlib.Core.List.{List, [], ◌∷◌, ◌++◌}
use Prim.Native.Nat.{ℕ, suc, ◌+◌, ◌≤◌}
use native.Mathlib.Nat.{add-zero, add-suc, suc-add, zero-add}
use native.Mathlib.Omega.{arith}
use lib.ListN.{length, drop, set, length-append, length-set}
use lib.Seq.{sets, sets-eq}
use Rattle.coefficient_text.specs.Stores.{Wrote}

sets-append : (xs ys l : List ℕ) (i : ℕ) → sets (sets l i xs) (i + length xs) ys ≡ sets l i (xs ++ ys)
sets-append [] ys l i = ap (λ (k : ℕ). sets l k ys) (add-zero i)
sets-append (x ∷ xs) ys l i =
    ap (λ (k : ℕ). sets (sets (set l i x) (suc i) xs) k ys) (add-suc i (length xs) ∙ sym (suc-add i (length xs))) ∙ sets-append xs ys (set l i x) (suc i)

pub wrote_none : (n : ℕ) (l : List ℕ) (i : ℕ) → Wrote n l i [] l i
wrote_none n l i = record { content = refl; place = sym (add-zero i); short = omega arith; long = refl }

pub wrote_one : (l : List ℕ) (i b : ℕ) → Wrote 1 l i (b ∷ []) (set l i b) (i + 1)
wrote_one l i b = record { content = refl; place = refl; short = omega arith; long = length-set l i b }

pub wrote_then : {n n' : ℕ} {l m k xs ys : List ℕ} {i j h : ℕ} → Wrote n l i xs m j → Wrote n' m j ys k h → Wrote (n + n') l i (xs ++ ys) k h
wrote_then {n} {n'} {l} {m} {k} {xs} {ys} {i} {j} {h} a b = record {
  content = b.content ∙ (λ t. sets (a.content t) (a.place t) ys) ∙ sets-append xs ys l i;
  place = omega (arith, a.place, b.place, length-append xs ys);
  short = omega (arith, a.short, b.short);
  long = b.long ∙ a.long;
}

-- the same bytes, said in another way
pub wrote_as : {n : ℕ} {l m xs ys : List ℕ} {i j : ℕ} → xs ≡ ys → Wrote n l i xs m j → Wrote n l i ys m j
wrote_as {n} {l} {m} {xs} {ys} {i} {j} e a = subst (λ (bs : List ℕ). Wrote n l i bs m j) e a

-- within more room
pub wrote-within : {n : ℕ} (n' : ℕ) {l m xs : List ℕ} {i j : ℕ} → n ≤ n' → Wrote n l i xs m j → Wrote n' l i xs m j
wrote-within n' h a = record { content = a.content; place = a.place; short = omega (arith, a.short); long = a.long }

-- from the first place on
pub wrote-all : {n : ℕ} {l m xs : List ℕ} {j : ℕ} → Wrote n l 0 xs m j → n ≤ length l → m ≡ xs ++ drop (length xs) l
wrote-all {n} {l} {m} {xs} {j} a h = a.content ∙ sets-eq xs l 0 (omega (arith, h, a.place, a.short)) ∙ ap (λ (k : ℕ). xs ++ drop k l) (zero-add (length xs))
