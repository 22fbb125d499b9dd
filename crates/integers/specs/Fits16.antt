-- Numbers of 16 signed bits.
use Rattle.std.specs.Prelude.{Bool, ◌&&◌, ℤ, pos, negsuc}
use Rattle.std.specs.Int.Signed.{le_z}
use Rattle.std.specs.Int.{w16}
use Rattle.std.proofs.Common.{SFits}

-- z is one
abbrev pub Fits16 : ℤ → Type 0
Fits16 z = SFits w16 z

-- the test: -32768 ≤ z ≤ 32767. `fits16-yes` and `fits16-all` of proofs/Fits16.antt say that its yes and the predicate are one.
abbrev pub fits16 : ℤ → Bool
fits16 z = le_z (negsuc 32767) z && le_z z (pos 32767)
