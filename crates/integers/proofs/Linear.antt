-- Linear forms: they add and are multiplied coefficient by coefficient; and a computation by wrapping operations that is linear in
-- its inputs, each value with its form. antt computes the forms, so at the end each output's form is compared by computation: so a
-- butterfly's steps, in whatever order, make up its rows of gains, at any width.
-- Assumes nothing.
use mathlib.Core.Path.{◌≡◌, refl, sym, ap, subst, ◌∙◌}
use mathlib.Core.List.{List, [], ◌∷◌, map}
use Prim.Native.Nat.{ℕ, zero, suc, ◌<◌}
use lib.ListN.{get_or, length}
use lib.IntN.{ℤ, pos, negsuc, neg_ℤ, ◌+ℤ◌, ◌-ℤ◌, ◌*ℤ◌, +ℤ_idl, +ℤ_idr, zero-*ℤ, *ℤ-zero, *ℤ_comm, *ℤ-one, one}
use mir.Syntax.{Width}
use Rattle.std.proofs.lemmas.List.{get_or-map}
use Rattle.integers.specs.Wrap.{wrap}
use Rattle.integers.specs.Linear.{dot}
use Rattle.integers.proofs.Ring.{ring, negℤ-*ℤ}
use Rattle.integers.proofs.Wrap.{wrap-twice, wrap-+, wrap--, wrap-*}

infixl 6 ◌⊕◌ ◌⊖◌
abbrev pub ◌⊕◌ : List ℤ → List ℤ → List ℤ
[] ⊕ v = v
(a ∷ u) ⊕ [] = a ∷ u
(a ∷ u) ⊕ (b ∷ v) = (a +ℤ b) ∷ (u ⊕ v)

infixl 7 ◌⊙◌
abbrev pub ◌⊙◌ : ℤ → List ℤ → List ℤ
c ⊙ [] = []
c ⊙ (a ∷ u) = (c *ℤ a) ∷ (c ⊙ u)

abbrev pub ◌⊖◌ : List ℤ → List ℤ → List ℤ
u ⊖ v = u ⊕ negsuc 0 ⊙ v

-- the k-th number alone
abbrev pub unit : ℕ → List ℤ
unit zero = pos 1 ∷ []
unit (suc k) = pos 0 ∷ unit k

pub one-*ℤ : (z : ℤ) → pos 1 *ℤ z ≡ z
unfolding one
one-*ℤ z = *ℤ_comm (pos 1) z ∙ *ℤ-one z

minus-one-*ℤ : (z : ℤ) → negsuc 0 *ℤ z ≡ neg_ℤ z
minus-one-*ℤ z = negℤ-*ℤ (pos 1) z ∙ ap neg_ℤ (one-*ℤ z)

add_step : (a b y s t : ℤ) → (a +ℤ b) *ℤ y +ℤ (s +ℤ t) ≡ (a *ℤ y +ℤ s) +ℤ (b *ℤ y +ℤ t)
add_step a b y s t = simp ring

times-step : (c a y s : ℤ) → (c *ℤ a) *ℤ y +ℤ c *ℤ s ≡ c *ℤ (a *ℤ y +ℤ s)
times-step c a y s = simp ring

pub dot-⊕ : (u v x : List ℤ) → dot (u ⊕ v) x ≡ dot u x +ℤ dot v x
unfolding dot
dot-⊕ [] v x = sym (+ℤ_idl (dot v x))
dot-⊕ (a ∷ u) [] x = sym (+ℤ_idr (dot (a ∷ u) x))
dot-⊕ (a ∷ u) (b ∷ v) [] = refl
dot-⊕ (a ∷ u) (b ∷ v) (y ∷ x) = ap (λ (t : ℤ). (a +ℤ b) *ℤ y +ℤ t) (dot-⊕ u v x) ∙ add_step a b y (dot u x) (dot v x)

pub dot-⊙ : (c : ℤ) (u x : List ℤ) → dot (c ⊙ u) x ≡ c *ℤ dot u x
unfolding dot
dot-⊙ c [] x = sym (*ℤ-zero c)
dot-⊙ c (a ∷ u) [] = sym (*ℤ-zero c)
dot-⊙ c (a ∷ u) (y ∷ x) = ap (λ (t : ℤ). (c *ℤ a) *ℤ y +ℤ t) (dot-⊙ c u x) ∙ times-step c a y (dot u x)

pub dot-⊖ : (u v x : List ℤ) → dot (u ⊖ v) x ≡ dot u x -ℤ dot v x
dot-⊖ u v x = dot-⊕ u (negsuc 0 ⊙ v) x ∙ ap (λ (t : ℤ). dot u x +ℤ t) (dot-⊙ (negsuc 0) v x ∙ minus-one-*ℤ (dot v x))

pub dot-unit : (k : ℕ) (x : List ℤ) → dot (unit k) x ≡ get_or x k (pos 0)
unfolding dot
dot-unit zero [] = refl
dot-unit zero (y ∷ x) = +ℤ_idr (pos 1 *ℤ y) ∙ one-*ℤ y
dot-unit (suc k) [] = refl
dot-unit (suc k) (y ∷ x) = (λ i. zero-*ℤ y i +ℤ dot-unit k x i) ∙ +ℤ_idl (get_or x k (pos 0))

-- x is the linear form u of xs, modulo 2^w
pub record Lin (w : Width) (xs u : List ℤ) (x : ℤ) : Type 0 where
  pub is : wrap w x ≡ wrap w (dot u xs)

module _ {w : Width} {xs : List ℤ} where
  pub lin-var : (k : ℕ) → Lin w xs (unit k) (get_or xs k (pos 0))
  lin-var k = record { is = ap (wrap w) (sym (dot-unit k xs)) }

  -- a wrapped sum and a wrapped difference, as outputs: the wrapped form itself
  pub lin-sum : {u v : List ℤ} {x y r : ℤ} → Lin w xs u x → Lin w xs v y → r ≡ wrap w (x +ℤ y) → r ≡ wrap w (dot (u ⊕ v) xs)
  lin-sum {u} {v} {x} {y} l m e =
      e ∙ sym (wrap-+ w x y) ∙ (λ i. wrap w (l.is i +ℤ m.is i)) ∙ wrap-+ w (dot u xs) (dot v xs) ∙ ap (wrap w) (sym (dot-⊕ u v xs))

  pub lin-difference : {u v : List ℤ} {x y r : ℤ} → Lin w xs u x → Lin w xs v y → r ≡ wrap w (x -ℤ y) → r ≡ wrap w (dot (u ⊖ v) xs)
  lin-difference {u} {v} {x} {y} l m e =
      e ∙ sym (wrap-- w x y) ∙ (λ i. wrap w (l.is i -ℤ m.is i)) ∙ wrap-- w (dot u xs) (dot v xs) ∙ ap (wrap w) (sym (dot-⊖ u v xs))

  -- and as operands of the steps that follow
  wrapped : {u : List ℤ} {r : ℤ} → r ≡ wrap w (dot u xs) → Lin w xs u r
  wrapped {u} e = record { is = ap (wrap w) e ∙ wrap-twice w (dot u xs) }

  pub lin-add : {u v : List ℤ} {x y r : ℤ} → Lin w xs u x → Lin w xs v y → r ≡ wrap w (x +ℤ y) → Lin w xs (u ⊕ v) r
  lin-add l m e = wrapped (lin-sum l m e)

  pub lin-sub : {u v : List ℤ} {x y r : ℤ} → Lin w xs u x → Lin w xs v y → r ≡ wrap w (x -ℤ y) → Lin w xs (u ⊖ v) r
  lin-sub l m e = wrapped (lin-difference l m e)

  pub lin-mul : {u : List ℤ} {x r : ℤ} (k : ℤ) → Lin w xs u x → r ≡ wrap w (x *ℤ k) → Lin w xs (k ⊙ u) r
  lin-mul {u} {x} k l e =
      wrapped (e ∙ sym (wrap-* w x k) ∙ ap (λ (t : ℤ). wrap w (t *ℤ k)) l.is ∙ wrap-* w (dot u xs) k ∙ ap (wrap w) (*ℤ_comm (dot u xs) k ∙ sym (dot-⊙ k u xs)))

  -- a sum of two products
  pub lin-mul2 : {u v : List ℤ} {x y r : ℤ} (j k : ℤ) → Lin w xs u x → Lin w xs v y → r ≡ wrap w (x *ℤ j +ℤ y *ℤ k) → Lin w xs (j ⊙ u ⊕ k ⊙ v) r
  lin-mul2 {u} {v} {x} {y} j k l m e = lin-add (lin-mul j l refl) (lin-mul k m refl) (e ∙ sym (wrap-+ w (x *ℤ j) (y *ℤ k)))

-- the k-th of some values that stand for numbers
pub lin-at : {A : Type 0} {w : Width} (f : A → ℤ) (ps : List A) (k : ℕ) (d : A) → k < length ps → Lin w (map f ps) (unit k) (f (get_or ps k d))
lin-at {w = w} f ps k d h = subst (Lin w (map f ps) (unit k)) (get_or-map f ps k d (pos 0) h) (lin-var k)
