-- Document 01, demand 3, second half: what the samples of the 8-bit 8×8 inverse are compared with.
use Rattle.std.specs.Prelude.{List, ℕ, get_or, ℤ, pos, ◌*ℤ◌}
use Rattle.passes.specs.Passes.{eight, column_pass, row_pass}
use Rattle.block.specs.Block.{columns, row_of}
use Rattle.basis.specs.Basis.{basis}
use Rattle.forward.specs.Sum.{sum_to}

-- the number that the two passes give at (x, y), before 128 is added and the sum is clamped
unfoldable pub row_number : List ℤ → ℕ → ℕ → ℤ
row_number D x y = get_or (row_pass eight (row_of (columns (column_pass eight) D) y)) x (pos 0)

-- the exact number there, in units of 2^-32: each frequency times its basis, "the sums here are exact, nothing wraps"
unfoldable pub exact_number : List ℤ → ℕ → ℕ → ℤ
exact_number D x y = sum_to 64 (λ n. basis n x y *ℤ get_or D n (pos 0))
