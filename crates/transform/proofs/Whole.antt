-- The whole part w of the sum, less 32768, as the code computes it: an i16.
-- Assumes nothing.
use mathlib.Core.Path.{◌≡◌, sym, ap, subst, ◌∙◌}
use Prim.Native.Nat.{ℕ, ◌^◌, ◌<◌}
use native.Mathlib.Decide.{dec_lt}
use native.Mathlib.Omega.{arith}
use borrow.Author.Tests.{lt-ltb, le-ltb}
use lib.IntN.{ℤ, pos, ◌-ℤ◌}
use lib.Signed.{mag}
use mir.Syntax.{w16, w32}
use mir.Val.{SFits, to_z, of_z}
use mir.ValLaws.{to_z-of_z, to_z_pos}
use Rattle.integers.proofs.Difference.{distance}
use Rattle.integers.proofs.Bound.{small-fits}

module _ (w : ℕ) (h : w < 65536) where
  pub cast_fits : SFits w32 (pos w)
  cast_fits = record { sfits = omega arith }

  abbrev less : ℤ
  less = to_z w32 w -ℤ pos 32768

  read : less ≡ pos w -ℤ pos 32768
  read = ap (λ (z : ℤ). z -ℤ pos 32768) (to_z_pos w32 w (omega arith))

  pub less-fits : SFits w32 less
  less-fits = subst (SFits w32) (sym read) (small-fits w32 (pos w -ℤ pos 32768) (omega (arith, distance w 32768)))

  pub whole-value : to_z w32 (of_z w32 less) ≡ pos w -ℤ pos 32768
  whole-value = to_z-of_z w32 less less-fits ∙ read

  part-size : mag (pos w -ℤ pos 32768) < 2 ^ 15
  part-size = go (dec_lt w 32768)
    where
      go : Dec (w < 32768) → mag (pos w -ℤ pos 32768) < 2 ^ 15
      go (yes l) = simp (lt-ltb w 32768 l) (omega arith)
      go (no l) = simp (le-ltb w 32768 (omega arith)) (omega arith)

  pub part-fits : SFits w16 (to_z w32 (of_z w32 less))
  part-fits = subst (SFits w16) (sym whole-value) (record { sfits = part-size })
