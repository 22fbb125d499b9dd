-- A list of four, each place of which is written, or all of it at once.
-- Assumes nothing.
use mathlib.Core.Path.{◌≡◌, refl, sym, ap, ◌∙◌}
use mathlib.Core.List.{List, [], ◌∷◌}
use Prim.Native.Nat.{ℕ}
use native.Mathlib.Omega.{arith}
use lib.ListN.{length, get_or, set}
use lib.Seq.{paste}
use Rattle.lists.proofs.Tab.{none, filled, tab-get_d, tab-ext, filled-paste}

module _ {A : Type 0} where
  pub all_set : (q : List A) (a b c d : A) → length q ≡ 4 → set (set (set (set q 0 a) 1 b) 2 c) 3 d ≡ a ∷ b ∷ c ∷ d ∷ []
  all_set (p ∷ q ∷ r ∷ s ∷ []) a b c d l = refl
  all_set [] a b c d l = absurd (omega arith)
  all_set (p ∷ []) a b c d l = absurd (omega arith)
  all_set (p ∷ q ∷ []) a b c d l = absurd (omega arith)
  all_set (p ∷ q ∷ r ∷ []) a b c d l = absurd (omega arith)
  all_set (p ∷ q ∷ r ∷ s ∷ t ∷ u) a b c d l = absurd (omega arith)

  pub all-pasted : (d : A) (out ys : List A) {n : ℕ} → length out ≡ 4 → length ys ≡ 4 → n ≡ 4 → paste out 0 ys n ≡ ys
  all-pasted d out ys l m e =
      let f : ℕ → A = λ j. get_or ys j d in
      ap (paste out 0 ys) e ∙ filled (filled-paste f 4 0 out ys 4 (none f 4 out l) (omega arith) (sym (tab-get_d d ys 4 m) ∙ tab-ext 4 _ _ (λ j b. ap f (omega arith)))) (omega arith) ∙ tab-get_d d ys 4 m
