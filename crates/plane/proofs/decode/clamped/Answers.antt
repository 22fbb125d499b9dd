use mathlib.Core.Path.{◌≡◌}
use native.Mathlib.Omega.{arith}
use lib.IntN.{ℤ, pos, negsuc}
use mir.Syntax.{w16, w32}
use mir.Val.{SFits, to_z, of_z}
use mir.ValLaws.{to_z-of_z}
use Rattle.std.specs.Int.{int_max, int_min}
use Rattle.std.proofs.lemmas.Int.{ints, clamps}
use Rattle.plane.specs.Scale.{clamped16}
use Rattle.clamping.specs.Clamping.{centered}
use Rattle.plane.proofs.Scales.{clamped-fits}
use Rattle.plane.proofs.decode.clamped.Goals as goal

clamped-is : (z : ℤ) → int_max (negsuc 32767) (int_min z (pos 32767)) ≡ clamped16 z
unfolding clamped16 centered
clamped-is (pos n) = omega (arith, ints, clamps)
clamped-is (negsuc n) = omega (arith, ints, clamps)

clamped-wide : (z : ℤ) → SFits w32 (clamped16 z)
unfolding clamped16 centered
clamped-wide (pos n) = record { sfits = omega arith }
clamped-wide (negsuc n) = record { sfits = omega arith }

clamped-read : {z r : ℤ} → SFits w32 z → r ≡ int_max (negsuc 32767) (int_min (to_z w32 (of_z w32 z)) (pos 32767)) → to_z w16 (of_z w16 (to_z w32 (of_z w32 r))) ≡ clamped16 z
clamped-read {z} f e = rw (e, to_z-of_z w32 z f, clamped-is z, to_z-of_z w32 _ (clamped-wide z)) (to_z-of_z w16 _ (clamped-fits z))

pub returns : goal.returns
returns c = clamped-read c.ranges.product c.clamp.ensures.value
