-- The test of the input.
-- Assumes nothing.
use mathlib.Core.Path.{◌≡◌, refl, sym, ap, ◌∙◌}
use mathlib.Core.Bool.{Bool, true, false, ◌&&◌}
use mathlib.Core.List.{List, [], ◌∷◌, ◌++◌}
use Prim.Native.Nat.{ℕ}
use native.Mathlib.Omega.{arith}
use lib.Dec.{eqb}
use lib.ListN.{length, take, drop, take-append-drop}
use borrow.Author.Tests.{eq-eqb, eqb-true}
use Rattle.std.specs.Bool.{Decides}
use Rattle.coefficient_text.specs.Lines.{digits}
use Rattle.coefficient_text.specs.Text.{header, same, accepted}

pub same_refl : (xs : List ℕ) → same xs xs ≡ true
unfolding same
same_refl [] = refl
same_refl (x ∷ xs) = rw (eq-eqb x x refl, same_refl xs)

pub same-eq : (xs ys : List ℕ) → same xs ys ≡ true → xs ≡ ys
unfolding same
same-eq [] [] h = refl
same-eq [] (y ∷ ys) h = let e : ◌≡◌ {A = ℕ} 0 1 = cc in absurd (omega arith)
same-eq (x ∷ xs) [] h = let e : ◌≡◌ {A = ℕ} 0 1 = cc in absurd (omega arith)
same-eq (x ∷ xs) (y ∷ ys) h = go (eqb x y) refl h (same-eq xs ys)
  where
    go : (t : Bool) → eqb x y ≡ t → (t && same xs ys) ≡ true → (same xs ys ≡ true → xs ≡ ys) → x ∷ xs ≡ y ∷ ys
    go true e h rest = λ i. eqb-true x y e i ∷ rest h i
    go false e h rest = let z : ◌≡◌ {A = ℕ} 0 1 = cc in absurd (omega arith)

-- an answer that is yes just where the lists are equal
pub decided : (r : Bool) (xs ys : List ℕ) → Decides r (ys ≡ xs) → r ≡ same xs ys
decided true xs ys d = sym (ap (same xs) (d.0 refl) ∙ same_refl xs)
decided false xs ys d = go (same xs ys) refl
  where
    go : (t : Bool) → same xs ys ≡ t → false ≡ t
    go true e = d.1 (sym (same-eq xs ys e))
    go false e = refl

-- the header of a PGM ("P5", width and height, maxval) of 8 × 8 samples to 255, its numbers in numeral
pub header_is : header ≡ 80 ∷ 53 ∷ 10 ∷ (digits 1 8 ++ (32 ∷ (digits 1 8 ++ (10 ∷ (digits 3 255 ++ (10 ∷ []))))))
unfolding header digits
header_is = refl

-- what is accepted: the header and 64 samples, and nothing else
pub accepted-is : (samples : List ℕ) → length samples ≡ 64 → accepted (header ++ samples) ≡ true
unfolding accepted same header
accepted-is samples h = rw h

pub accepted-only : (input : List ℕ) → accepted input ≡ true → (input ≡ header ++ drop 11 input) × (length input ≡ 75)
unfolding accepted
accepted-only input h = go (eqb (length input) 75) refl h
  where
    go : (t : Bool) → eqb (length input) 75 ≡ t → (t && same (take 11 input) header) ≡ true → (input ≡ header ++ drop 11 input) × (length input ≡ 75)
    go true e h = (sym (take-append-drop 11 input) ∙ ap (λ (l : List ℕ). l ++ drop 11 input) (same-eq (take 11 input) header h), eqb-true (length input) 75 e)
    go false e h = let z : ◌≡◌ {A = ℕ} 0 1 = cc in absurd (omega arith)
