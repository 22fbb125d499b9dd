-- The test of 16 bits and the predicate are one, both ways; and how large such a number is.
-- Assumes nothing.
use mathlib.Core.Path.{◌≡◌, sym, ap, subst, ◌∙◌}
use mathlib.Core.Bool.{true}
use Prim.Native.Nat.{◌^◌, ◌≤◌, ◌<◌}
use native.Mathlib.Omega.{arith}
use borrow.Author.Tests.{le-leb}
use lib.Dec.{T, leb, leb→le, lit<}
use lib.IntN.{ℤ, pos, negsuc, nat_abs}
use mir.Facts.{and_yes, sfits_widen}
use mir.Syntax.{w32}
use mir.Val.{to_z, of_z}
use mir.ValLaws.{to_z-of_z}
use Rattle.integers.specs.Fits16.{Fits16, fits16}

pub fits16-yes : (z : ℤ) → T (fits16 z) → Fits16 z
fits16-yes (pos n) t = record { sfits = let h : n ≤ 32767 = leb→le n 32767 t in omega arith }
fits16-yes (negsuc n) t = record { sfits = let h : n ≤ 32767 = leb→le n 32767 (and_yes (leb n 32767) true t).0 in omega arith }

pub fits16-all : (z : ℤ) → Fits16 z → T (fits16 z)
fits16-all (pos n) h = let b : n < 2 ^ 15 = h.sfits in rw (le-leb n 32767 (omega arith)) tt
fits16-all (negsuc n) h = let b : n < 2 ^ 15 = h.sfits in rw (le-leb n 32767 (omega arith)) tt

pub fits16-abs : (z : ℤ) → Fits16 z → nat_abs z ≤ 2 ^ 15
fits16-abs (pos n) h = let b : n < 2 ^ 15 = h.sfits in omega arith
fits16-abs (negsuc n) h = let b : n < 2 ^ 15 = h.sfits in omega arith

pub fits16-zero : Fits16 (pos 0)
fits16-zero = record { sfits = lit< tt }

-- as a local of 32 bits holds it: the same number, and it fits; and what a call that was handed it and gave it back gave
module _ {z : ℤ} (f : Fits16 z) where
  pub fits16-held : to_z w32 (of_z w32 z) ≡ z
  fits16-held = to_z-of_z w32 z (sfits_widen tt f)

  pub fits16-local : Fits16 (to_z w32 (of_z w32 z))
  fits16-local = subst Fits16 (sym fits16-held) f

  pub fits16-back : {r : ℤ} → r ≡ to_z w32 (of_z w32 z) → to_z w32 (of_z w32 r) ≡ z
  fits16-back e = ap (λ (t : ℤ). to_z w32 (of_z w32 t)) (e ∙ fits16-held) ∙ fits16-held
