-- Document 02, card 2: the program "codes it with divisor 1 and writes it back at full size".
use Rattle.std.specs.Prelude.{List, ℕ, replicate}
use Rattle.plane.specs.Scale.{full, recoded}

unfoldable pub recoded_by_one : List ℕ → ℕ → ℕ → List ℕ
recoded_by_one samples w h = recoded full samples w h (replicate 64 1)
