-- A place of one number, and calls whose tests come in two parts. Assumes nothing.
use mathlib.Core.Path.{◌≡◌, refl, sym, ap, ◌∙◌}
use mathlib.Core.Bool.{Bool, true, false, cond}
use mathlib.Core.List.{List, [], ◌∷◌, ◌++◌}
use native.Mathlib.Decide.{ℕ_discrete}
use native.Mathlib.Omega.{arith}
use Prim.Native.Nat.{ℕ}
use lib.Dec.{T}
use lib.ListN.{length, set}
use Rattle.std.specs.Prelude.{⊤, Result, Ok, Err}
use Rattle.refusals.specs.declared.Refusal.{Refusal}
use Rattle.refusals.specs.Refusals.{Test, ◌unless◌, status, written}
use Rattle.refusals.specs.Numbers.{number, status_of}
use Rattle.refusals.proofs.Refusals.{kept, numbered, after, none_after}

pub one_left : {A : Type 0} (place : List A) (value : A) → length place ≡ 1 → set place 0 value ≡ value ∷ []
one_left [] value e = absurd (omega arith)
one_left (x ∷ []) value e = refl
one_left (x ∷ y ∷ r) value e = absurd (omega arith)

pub two_left : {A : Type 0} (place : List A) (first second : A) → length place ≡ 2 → set (set place 0 first) 1 second ≡ first ∷ second ∷ []
two_left [] first second e = absurd (omega arith)
two_left (x ∷ []) first second e = absurd (omega arith)
two_left (x ∷ y ∷ []) first second e = refl
two_left (x ∷ y ∷ z ∷ r) first second e = absurd (omega arith)

none-before : (s u : ℕ) → written s u s ≡ 0 → 0 ≡ s
none-before s u e = by (ℕ_discrete s 0)
  where
    by : Dec (s ≡ 0) → 0 ≡ s
    by (yes z) = sym z
    by (no h) = absurd (h (kept u s h ∙ e))

-- where all pass, the first part does
pub first-passed : (ts us : List Test) → T (numbered ts) → 0 ≡ status (ts ++ us) → 0 ≡ status ts
first-passed ts us n e = none-before (status ts) (status us) (after ts us n refl refl ∙ sym e)

-- and the second
pub second-passed : (ts us : List Test) → T (numbered ts) → 0 ≡ status (ts ++ us) → status us ≡ 0
second-passed ts us n e = none_after (status ts) (status us) (after ts us n refl refl ∙ sym e)

-- a test's result, by its status
pub unless-status : (p : Bool) (d : Refusal) {r : Result ⊤ Refusal} → r ≡ cond p (Ok tt) (Err d) → status_of r ≡ status (number d unless p ∷ [])
unfolding status
unless-status true d e = ap status_of e
unless-status false d e = ap status_of e
