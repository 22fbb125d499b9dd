-- The floats 8·AAN_SCALE[u]·AAN_SCALE[v], exactly: computed once.
-- Assumes nothing.
use mathlib.Core.Path.{refl}
use mathlib.Core.Bool.{Bool, true, false, not, ◌&&◌}
use Prim.Native.Nat.{ℕ, ◌*◌, ◌/◌, ◌^◌, ◌≤◌, ◌<◌}
use lib.Dec.{T, eqb, leb, leb→le, eqb→eq}
use lib.Ieee.{Float, nan, inf, fin, up, down, round, mul}
use lib.Ieee.Exact.{HasValue}
use lib.Ieee.Fits.{and_l, and_r}
use Rattle.lists.specs.Below.{below}
use Rattle.lists.proofs.Below.{below_at}
use Rattle.guarded_quantizer.specs.Literals.{decimal}
use Rattle.guarded_quantizer.specs.Divisors.{aan_scale}
use Rattle.agreement.specs.Exact.{one, scale_float}

-- a float in units of 2^-54, and whether it is that number of them
unfoldable pub in_units : Float → ℕ
in_units nan = 0
in_units (inf s) = 0
in_units (fin s m e) = m * up e * one / down e

exactly : Float → Bool
exactly nan = false
exactly (inf s) = false
exactly (fin s m e) = not s && eqb (m * up e * one) (m * up e * one / down e * down e)

exact-value : (x : Float) → T (exactly x) → HasValue x false (in_units x) one
unfolding exactly in_units
exact-value nan t = absurd t
exact-value (inf s) t = absurd t
exact-value (fin true m e) t = absurd t
exact-value (fin false m e) t = (refl, eqb→eq _ _ t)

unfoldable pub scale : ℕ → ℕ
scale n = in_units (scale_float n)

low-test : ℕ → Bool
low-test n = leb (9 * 2 ^ 50) (scale n)

high-test : ℕ → Bool
high-test n = leb (scale n) (2 ^ 58)

scale-test : ℕ → Bool
scale-test n = exactly (scale_float n) && (low-test n && high-test n)

scales : T (below 64 scale-test)
unfolding below scale-test low-test high-test scale exactly in_units round mul decimal aan_scale
scales = tt

module _ (n : ℕ) (h : n < 64) where
  tested : T (exactly (scale_float n) && (low-test n && high-test n))
  unfolding scale-test
  tested = below_at 64 scale-test scales n h

  sized : T (low-test n && high-test n)
  sized = and_r (exactly (scale_float n)) (low-test n && high-test n) tested

  pub scale-value : HasValue (scale_float n) false (scale n) one
  unfolding scale
  scale-value = exact-value (scale_float n) (and_l (exactly (scale_float n)) (low-test n && high-test n) tested)

  pub scale-least : 9 * 2 ^ 50 ≤ scale n
  unfolding low-test
  scale-least = leb→le (9 * 2 ^ 50) (scale n) (and_l (low-test n) (high-test n) sized)

  pub scale-most : scale n ≤ 2 ^ 58
  unfolding high-test
  scale-most = leb→le (scale n) (2 ^ 58) (and_r (low-test n) (high-test n) sized)
