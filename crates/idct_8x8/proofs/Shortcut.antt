-- Eight columns or rows, f 0 .. f 7, of which none has the zero shortcut: the loop that tests them, and the full pass over each.
-- Assumes nothing.
use Prim.Native.Nat.{ℕ, ◌+◌, ◌<◌}
use mathlib.Core.Path.{◌≡◌, refl, sym, ap, subst, ◌∙◌}
use mathlib.Core.Bool.{Bool, true, false, not, ◌&&◌}
use mathlib.Core.List.{List, [], ◌∷◌}
use native.Mathlib.Omega.{arith}
use lib.Dec.{T}
use lib.ListN.{take}
use lib.IntN.{ℤ, pos}
use mir.Syntax.{w32}
use Rattle.integers.specs.Linear.{zero_at}
use Rattle.lists.specs.Every.{every}
use Rattle.lists.specs.Tab.{tab}
use Rattle.lists.proofs.Every.{every_holds, every-at, every-next}
use Rattle.lists.proofs.Tab.{length-tab, get_d-tab}
use Rattle.gains.specs.Gains.{gains}
use Rattle.passes.specs.Passes.{eight, pass, column_pass, row_pass}
use Rattle.passes.proofs.Steps.{full-column, full-row}

-- p has no shortcut
abbrev pub full : List ℤ → Bool
full p = not (zero_at eight.ac p)

no-shortcut : (p : List ℤ) → T (full p) → zero_at eight.ac p ≡ false
no-shortcut p = go (zero_at eight.ac p)
  where
    go : (b : Bool) → T (not b) → b ≡ false
    go false t = refl
    go true t = elim t [ ]

module _ (f : ℕ → List ℤ) where
  pub full-next : (k : ℕ) {s t : Bool} {p : List ℤ} → s ≡ every full (take k (tab 8 f)) → k < 8 → p ≡ f k → t ≡ zero_at eight.ac p → (not t && s) ≡ every full (take (k + 1) (tab 8 f))
  full-next k e b g h =
      every-next full [] (tab 8 f) k e (omega (arith, length-tab 8 f)) (ap not (h ∙ ap (zero_at eight.ac) (g ∙ sym (get_d-tab 8 f [] k b))))

  module _ (h : T (every full (tab 8 f))) {k : ℕ} (b : k < 8) where
    at : zero_at eight.ac (f k) ≡ false
    unfolding eight zero_at
    at =
        subst (λ (p : List ℤ). zero_at eight.ac p ≡ false) (get_d-tab 8 f _ k b)
        (every-at (every_holds full no-shortcut (tab 8 f) h) (pos 0 ∷ pos 1 ∷ []) refl k)

    pub column-full : {p r : List ℤ} → p ≡ f k → r ≡ pass w32 gains 11 p → r ≡ column_pass eight (f k)
    unfolding eight
    column-full g e = full-column eight (f k) refl at (e ∙ ap (pass w32 gains 11) g)

    pub row-full : {p r : List ℤ} → p ≡ f k → r ≡ pass w32 gains 18 p → r ≡ row_pass eight (f k)
    unfolding eight
    row-full g e = full-row eight (f k) refl at (e ∙ ap (pass w32 gains 18) g)
