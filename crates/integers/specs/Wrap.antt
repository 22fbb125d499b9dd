-- Numbers of a fixed width: what a wrapping operation gives. Document 01, leaf 2: "wraps modulo 2^32, read back as signed".
use Rattle.std.specs.Prelude.{ℕ, suc, ◌-◌, ◌%◌, ◌^◌, ℤ, pos, negsuc}
use Rattle.std.specs.Int.{Width}
use mir.Val.{bits, hbits, to_z}

-- the number of 0 .. m - 1 that is congruent to z modulo m
unfoldable pub modulo : ℕ → ℤ → ℕ
modulo m (pos a) = a % m
modulo m (negsuc a) = m - suc (a % m)

-- the number of w's signed range, -2 ^ (bits w - 1) .. 2 ^ (bits w - 1) - 1, that is congruent to z modulo 2 ^ bits w.
-- `wrap-fits`, `wrap-congruent` and `wrap-unique` of proofs/Wrap.antt say that this is what it is.
unfoldable pub wrap : Width → ℤ → ℤ
wrap w z = to_z w (modulo (2 ^ bits w) z)

-- the place of w's sign bit
abbrev pub top_bit : Width → ℕ
top_bit w = hbits w
