-- Entries that a matrix does not read play no part: where its columns ks are zero, inputs that agree elsewhere give the same outputs.
-- Assumes nothing.
use mathlib.Core.Path.{◌≡◌, refl, sym, ap, ◌∙◌, subst}
use mathlib.Core.Bool.{Bool, true, false, ◌||◌}
use mathlib.Core.List.{List, [], ◌∷◌}
use mathlib.Core.Logic.{◌⊎◌, inl, inr, ⊎_elim}
use Prim.Native.Nat.{ℕ, suc}
use native.Mathlib.Omega.{arith}
use lib.Dec.{T, eqb, eqb→eq}
use lib.ListN.{get_or}
use lib.IntN.{ℤ, pos, negsuc, nat_abs, ◌+ℤ◌, ◌*ℤ◌, *ℤ-zero, zero-*ℤ, +ℤ_idr}
use mir.Facts.{and_yes}
use mir.Syntax.{Width}
use Rattle.integers.specs.Wrap.{wrap}
use Rattle.integers.specs.Linear.{dot, transform, listed, zero_at, blank}

dot-nil : (u : List ℤ) → dot u [] ≡ pos 0
unfolding dot
dot-nil [] = refl
dot-nil (c ∷ u) = refl

tail : List ℤ → List ℤ
tail [] = []
tail (x ∷ xs) = xs

dot-cons : (c : ℤ) (u xs : List ℤ) → dot (c ∷ u) xs ≡ c *ℤ get_or xs 0 (pos 0) +ℤ dot u (tail xs)
unfolding dot tail
dot-cons c u [] = sym ((λ i. *ℤ-zero c i +ℤ dot-nil u i) ∙ +ℤ_idr (pos 0))
dot-cons c u (x ∷ xs) = refl

get_d_tail : (xs : List ℤ) (k : ℕ) → get_or (tail xs) k (pos 0) ≡ get_or xs (suc k) (pos 0)
unfolding tail
get_d_tail [] k = refl
get_d_tail (x ∷ xs) k = refl

-- a form reads its inputs only through the products
pub dot-agree : (u xs ys : List ℤ) → ((k : ℕ) → get_or u k (pos 0) *ℤ get_or xs k (pos 0) ≡ get_or u k (pos 0) *ℤ get_or ys k (pos 0)) → dot u xs ≡ dot u ys
unfolding dot
dot-agree [] xs ys h = refl
dot-agree (c ∷ u) xs ys h = step c u xs ys (h 0) (dot-agree u (tail xs) (tail ys) (λ k. ap (λ (t : ℤ). get_or u k (pos 0) *ℤ t) (get_d_tail xs k) ∙ h (suc k) ∙ ap (λ (t : ℤ). get_or u k (pos 0) *ℤ t) (sym (get_d_tail ys k))))
  where
    step : (c : ℤ) (u xs ys : List ℤ) → c *ℤ get_or xs 0 (pos 0) ≡ c *ℤ get_or ys 0 (pos 0) → dot u (tail xs) ≡ dot u (tail ys) → dot (c ∷ u) xs ≡ dot (c ∷ u) ys
    step c u xs ys e r = dot-cons c u xs ∙ (λ i. e i +ℤ r i) ∙ sym (dot-cons c u ys)

pub zero-size : (z : ℤ) → nat_abs z ≡ 0 → z ≡ pos 0
zero-size (pos n) e = ap pos e
zero-size (negsuc n) e = absurd (omega arith)

or_split : (a b : Bool) → T (a || b) → T a ⊎ T b
or_split true b t = inl tt
or_split false b t = inr t

-- an entry that a passed test names is zero
pub zero-entry : (ks : List ℕ) (xs : List ℤ) → T (zero_at ks xs) → (k : ℕ) → T (listed ks k) → get_or xs k (pos 0) ≡ pos 0
unfolding zero_at listed
zero-entry [] xs t k m = absurd m
zero-entry (n ∷ ns) xs t k m =
    let both = and_yes (eqb (nat_abs (get_or xs n (pos 0))) 0) (zero_at ns xs) t in
    ⊎_elim
    (λ e. ap (λ (j : ℕ). get_or xs j (pos 0)) (sym (eqb→eq n k e)) ∙ zero-size (get_or xs n (pos 0)) (eqb→eq _ 0 both.0))
    (λ r. zero-entry ns xs both.1 k r)
    (or_split (eqb n k) (listed ns k) m)

module _ (ks : List ℕ) (xs ys : List ℤ) (agree : (k : ℕ) → listed ks k ≡ false → get_or xs k (pos 0) ≡ get_or ys k (pos 0)) where
  products : (u : List ℤ) → T (zero_at ks u) → (k : ℕ) (b : Bool) → listed ks k ≡ b → get_or u k (pos 0) *ℤ get_or xs k (pos 0) ≡ get_or u k (pos 0) *ℤ get_or ys k (pos 0)
  products u t k true e =
      let z = zero-entry ks u t k (subst T (sym e) tt) in
      ap (λ (c : ℤ). c *ℤ get_or xs k (pos 0)) z ∙ zero-*ℤ (get_or xs k (pos 0)) ∙ sym (ap (λ (c : ℤ). c *ℤ get_or ys k (pos 0)) z ∙ zero-*ℤ (get_or ys k (pos 0)))
  products u t k false e = ap (λ (x : ℤ). get_or u k (pos 0) *ℤ x) (agree k e)

  pub transform-agree : (w : Width) (rows : List (List ℤ)) → T (blank ks rows) → transform w rows xs ≡ transform w rows ys
  unfolding transform blank
  transform-agree w [] t = refl
  transform-agree w (u ∷ rows) t =
      let both = and_yes (zero_at ks u) (blank ks rows) t in
      λ i. wrap w (dot-agree u xs ys (λ k. products u both.0 k (listed ks k) refl) i) ∷ transform-agree w rows both.1 i
