-- What the three sizes share: the block from its columns and rows, over the size.
-- Assumes nothing.
use mathlib.Core.Path.{◌≡◌, ap, ◌∙◌}
use mathlib.Core.List.{List}
use Prim.Native.Nat.{ℕ, ◌+◌}
use lib.IntN.{ℤ}
use mir.Syntax.{w64}
use Rattle.clamping.specs.Clamping.{sample12bit}
use Rattle.passes.specs.Passes.{Size, pass}
use Rattle.block.specs.Block.{columns, row_samples, samples, block12bit}

-- columns first, then rows
pub block_made : (z : Size) (xs : List ℤ) {cols : List (List ℤ)} {left : List ℕ} → cols ≡ columns (pass w64 z.matrix (12 + z.extra)) xs →
    left ≡ row_samples (pass w64 z.matrix (17 + z.extra)) sample12bit z.side cols → left ≡ block12bit z xs
unfolding block12bit samples
block_made z xs e f = f ∙ ap (row_samples (pass w64 z.matrix (17 + z.extra)) sample12bit z.side) e
