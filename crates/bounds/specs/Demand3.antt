-- Document 01, "Demand 3 in numbers": what equal coefficients can hide, and how far a block comes back from its coefficients.
use Rattle.std.specs.Prelude.{List, ◌≡◌, ℕ, ◌+◌, ◌-◌, ◌*◌, ◌^◌, ◌≤◌, ◌<◌, get_or, ℤ, pos, nat_abs, ◌-ℤ◌}
use Rattle.integers.specs.Fits16.{Fits16}
use Rattle.lists.specs.Every.{Every}
use Rattle.basis.specs.Basis.{basis}
use Rattle.forward.specs.Sum.{total}
use Rattle.quantize.specs.Quantize.{divisor_of}
use Rattle.forward.specs.Canonical.{Bytes, coefficients}
use Rattle.stored_blocks.specs.Dequantize.{dequantized}
use Rattle.passes.specs.Passes.{eight}
use Rattle.block.specs.Block.{block}
use Rattle.orthogonality.specs.Difference.{squared_differences, squared_divisors}

-- a block's coefficients, dequantized
unfoldable pub products : List ℕ → List ℕ → List ℤ
products a quant = dequantized (coefficients a quant) quant

-- and "handed to the 8-bit 8×8 inverse"
unfoldable pub decoded : List ℕ → List ℕ → List ℕ
decoded a quant = block eight (products a quant)

-- "the sum, over the 64 frequencies n, of d(n) times the size of the basis integer for n at (x, y), mirrored as in leaf 3"
unfoldable pub weighted_basis : List ℕ → ℕ → ℕ → ℕ
weighted_basis quant x y = total 64 (λ n. divisor_of (get_or quant n 0) * nat_abs (basis n x y))

-- "the sum of (a - b)² over the 64 places is at most the sum of d(n)² over the 64 frequencies"
abbrev pub Alike : List ℕ → List ℕ → List ℕ → Type 0
Alike quant a b = squared_differences a b ≤ squared_divisors quant

-- document 02, card 8, of two 12-bit blocks: "(2^23 - 1) × the sum of squared sample differences ≤ 2^23 × the sum of squared divisors"
abbrev pub Alike12bit : List ℕ → List ℕ → List ℕ → Type 0
Alike12bit quant a b = (2 ^ 23 - 1) * squared_differences a b ≤ 2 ^ 23 * squared_divisors quant

-- "At each place (x, y), 2^33 times the size of a - c is at most 2^34 plus" the weighted basis
abbrev pub Near : List ℕ → List ℕ → List ℕ → Type 0
Near quant a c =
    (x y : ℕ) → x < 8 → y < 8 → 2 ^ 33 * nat_abs (pos (get_or a (8 * y + x) 0) -ℤ pos (get_or c (8 * y + x) 0)) ≤ 2 ^ 34 + weighted_basis quant x y

-- "The products fit 16 bits" (`Every Fits16`). "Both halves together are one claim"
abbrev pub Demand3 : List ℕ → Type 0
Demand3 quant =
    ((a b : List ℕ) → Bytes a → Bytes b → coefficients a quant ≡ coefficients b quant → Alike quant a b)
    × ((a : List ℕ) → Bytes a → Every Fits16 (products a quant) × Near quant a (decoded a quant))
