-- Document 01, "The guarded quantizer": the bitmap of nonzero AC places.
use Rattle.std.specs.Prelude.{ℕ, ◌+◌, ◌-◌, ◌*◌, ◌/◌, ◌%◌, ◌^◌, cond, List, ℤ, pos, ◌==◌, slice_index_or, unsigned_abs}
use Rattle.forward.specs.Sum.{total}

-- bit k of b
unfoldable pub bit : ℕ → ℕ → ℕ
bit b k = b / 2 ^ k % 2

-- b with t as its bit k: the bits above, t, the bits below
unfoldable pub with_bit : ℕ → ℕ → ℕ → ℕ
with_bit b k t = (b / 2 ^ k / 2 * 2 + t) * 2 ^ k + b % 2 ^ k

-- 1 for a coefficient that is not 0
unfoldable pub nonzero : ℤ → ℕ
nonzero x = cond (unsigned_abs x == 0) 0 1

-- "In the 64-bit bitmap the bit 64 - z is set when AC place z is nonzero", z from 1 to 63; "it is read off the coefficients"
-- (`bitmap-bit` and `bitmap-low` of proofs/Bitmap.antt: each of its bits)
unfoldable pub bitmap_of : List ℤ → ℕ
bitmap_of ac = total 64 (λ z. cond (z == 0) 0 (nonzero (slice_index_or ac z (pos 0)) * 2 ^ (64 - z)))
