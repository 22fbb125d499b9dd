-- The test that two integers are the same.
-- Assumes nothing.
use mathlib.Core.Path.{◌≡◌, refl, sym, ap, ◌∙◌}
use mathlib.Core.Bool.{Bool, true, false}
use borrow.Author.Tests.{eqb-true, ne_eqb, eq-eqb}
use native.Mathlib.Decide.{ℕ_discrete}
use lib.Dec.{eqb}
use lib.IntN.{ℤ, pos, negsuc}
use mir.Syntax.{Width}
use mir.Val.{SFits, to_z, of_z}
use mir.ValLaws.{to_z-of_z}
use Rattle.integers.specs.Equal.{eq_z}

eq_z-refl : (x : ℤ) → eq_z x x ≡ true
unfolding eq_z
eq_z-refl (pos a) = eq-eqb a a refl
eq_z-refl (negsuc a) = eq-eqb a a refl

pub eq_z-same : (x y : ℤ) → x ≡ y → eq_z x y ≡ true
eq_z-same x y e = ap (eq_z x) (sym e) ∙ eq_z-refl x

pub eq_z-true : (x y : ℤ) → eq_z x y ≡ true → x ≡ y
unfolding eq_z
eq_z-true (pos a) (pos b) e = ap pos (eqb-true a b e)
eq_z-true (negsuc a) (negsuc b) e = ap negsuc (eqb-true a b e)
eq_z-true (pos a) (negsuc b) e = cc
eq_z-true (negsuc a) (pos b) e = cc

pub eq_z-other : (x y : ℤ) → (x ≡ y → ⊥) → eq_z x y ≡ false
eq_z-other x y h = go (eq_z x y) refl
  where
    go : (t : Bool) → eq_z x y ≡ t → t ≡ false
    go true e = absurd (h (eq_z-true x y e))
    go false e = refl

-- of numbers that fit a width, by their bits
module _ (w : Width) {x y : ℤ} (fx : SFits w x) (fy : SFits w y) where
  bits-same : of_z w x ≡ of_z w y → eq_z x y ≡ true
  bits-same e = eq_z-same x y (sym (to_z-of_z w x fx) ∙ ap (to_z w) e ∙ to_z-of_z w y fy)

  bits-other : (of_z w x ≡ of_z w y → ⊥) → eq_z x y ≡ false
  bits-other h = eq_z-other x y (λ e. h (ap (of_z w) e))

  pub bits-eqb : eqb (of_z w x) (of_z w y) ≡ eq_z x y
  bits-eqb = go (ℕ_discrete (of_z w x) (of_z w y))
    where
      go : Dec (of_z w x ≡ of_z w y) → eqb (of_z w x) (of_z w y) ≡ eq_z x y
      go (yes e) = eq-eqb (of_z w x) (of_z w y) e ∙ sym (bits-same e)
      go (no h) = ne_eqb (of_z w x) (of_z w y) h ∙ sym (bits-other h)
