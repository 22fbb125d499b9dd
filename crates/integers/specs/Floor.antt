-- Division rounded down.
use Rattle.std.specs.Prelude.{ℕ, ℤ}
use Rattle.std.specs.Int.Signed.{shr_z}

-- the greatest whole number that is at most z / m, as `floor-div` of proofs/Floor.antt says
abbrev pub floor_div : ℤ → ℕ → ℤ
floor_div z m = shr_z z m
