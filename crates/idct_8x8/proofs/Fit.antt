-- What the row pass gives fits 16 bits, whatever it is given: it is 18 bits less than 32. And a number that fits, cut to 16 bits and widened
-- again.
-- Assumes nothing.
use mathlib.Core.Path.{◌≡◌, ap, ◌∙◌}
use mathlib.Core.List.{List, [], ◌∷◌, map}
use Prim.Native.Nat.{ℕ, ◌^◌}
use native.Mathlib.Omega.{arith}
use lib.ListN.{length, get_or}
use lib.IntN.{ℤ, pos, negsuc, ◌+ℤ◌}
use mir.Facts.{to_z-of_z}
use mir.Syntax.{w16, w32}
use mir.Val.{SFits, to_z, of_z}
use Rattle.integers.specs.Fits16.{Fits16}
use Rattle.integers.specs.Floor.{floor_div}
use Rattle.integers.specs.Wrap.{wrap}
use Rattle.integers.proofs.Fits16.{fits16-held}
use Rattle.integers.proofs.Wrap.{wrap-fits}
use Rattle.lists.specs.Every.{Every, every-nil, every-cons}
use Rattle.lists.proofs.Tab.{get_d-tab, tab-ext}
use Rattle.scaling.specs.Scaling.{descaled}
use Rattle.passes.specs.Passes.{eight, row_pass}
use Rattle.passes.proofs.Steps.{eight-rows, length-row}
use Rattle.block.specs.Block.{row_of, row_at, valued, column}

scaled_fits : (v : ℤ) → Fits16 (descaled w32 v 18)
unfolding descaled
scaled_fits v = small (wrap w32 (v +ℤ pos (2 ^ 17))) (wrap-fits w32 _)
  where
    small : (z : ℤ) → SFits w32 z → Fits16 (floor_div z (2 ^ 18))
    small (pos a) f = record { sfits = omega (arith, f.sfits) }
    small (negsuc a) f = record { sfits = omega (arith, f.sfits) }

pub all-scaled : {r : List ℤ} (q : List ℤ) → r ≡ map (λ v. descaled w32 v 18) q → Every Fits16 r
all-scaled q e = rw e (each q)
  where
    each : (q : List ℤ) → Every Fits16 (map (λ v. descaled w32 v 18) q)
    each [] = every-nil
    each (v ∷ q) = every-cons (scaled_fits v) (each q)

pub length-eight : (p : List ℤ) → length (row_pass eight p) ≡ 8
unfolding eight
length-eight p = length-row eight p eight-rows

module _ {z : ℤ} (f : Fits16 z) where
  pub cut : {r : ℤ} → r ≡ to_z w32 (of_z w32 z) → to_z w16 (of_z w16 r) ≡ z
  cut e = ap (λ (t : ℤ). to_z w16 (of_z w16 t)) (e ∙ fits16-held f) ∙ to_z-of_z f

  pub widened : {r : ℤ} → r ≡ to_z w16 (of_z w16 z) → to_z w32 (of_z w32 r) ≡ z
  widened e = ap (λ (t : ℤ). to_z w32 (of_z w32 t)) (e ∙ to_z-of_z f) ∙ fits16-held f

-- the columns of rows, by what their elements stand for
pub column-row : {A : Type 0} (values : List A → List ℤ) (rows : List (List A)) (x : ℕ) → row_of (valued values rows) x ≡ column values rows x
unfolding row_at
column-row values rows x =
    tab-ext 8 _ _ (λ y b. ap (λ (q : List ℤ). get_or q x (pos 0)) (get_d-tab 8 (λ y. values (get_or rows y [])) [] y b))
