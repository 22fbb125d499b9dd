-- An i16, as the code stores and chooses it.
-- Assumes nothing.
use mathlib.Core.Path.{◌≡◌, sym, subst, ◌∙◌}
use mathlib.Core.Bool.{Bool, cond}
use lib.IntN.{ℤ}
use mir.Syntax.{w16}
use mir.Val.{SFits, to_z, of_z}
use mir.ValLaws.{to_z-of_z}

-- an i16, stored
pub stored : {r v : ℤ} → r ≡ v → SFits w16 r → record { value : to_z w16 (of_z w16 r) ≡ v; sfits : SFits w16 (to_z w16 (of_z w16 r)) }
stored {r} e fits = let back = to_z-of_z w16 r fits in record { value = back ∙ e; sfits = subst (SFits w16) (sym back) fits }

-- by the answer of a test
pub chosen : (x y : ℤ) {r : ℤ} (t : Bool) {near : Bool} → t ≡ near → r ≡ cond t x y → SFits w16 r → record { value : to_z w16 (of_z w16 r) ≡ cond near x y; sfits : SFits w16 (to_z w16 (of_z w16 r)) }
chosen x y t e q fits = stored (q ∙ (λ i. cond (e i) x y)) fits
