-- Document 01, "The guarded quantizer": `fdct_8` over rows, then columns, each operation rounded once in the Rust's order.
use Rattle.std.specs.Prelude.{ℕ, ◌+◌, ◌*◌, ◌/◌, ◌%◌, List, get_or, pos, slice_index, slice_index_or}
use Rattle.std.specs.Prelude.{Float}
use Rattle.std.specs.Float.{nan, binary64}
use Rattle.std.specs.Float.Ieee.{sub, of_int}
use Rattle.lists.specs.Tab.{tab}
use Rattle.guarded_quantizer.specs.Literals.{decimal}
use Rattle.guarded_quantizer.specs.Transform.{fdct8}

-- sample n of a block, less 128
unfoldable pub level_shifted : List ℕ → ℕ → Float
level_shifted block n = sub binary64 (of_int binary64 (pos (slice_index block n))) (decimal 128 0)

unfoldable pub row : List ℕ → ℕ → List Float
row block y = tab 8 (λ x. level_shifted block (8 * y + x))

-- column u of the transformed rows
unfoldable pub column : List ℕ → ℕ → List Float
column block u = tab 8 (λ y. get_or (fdct8 (row block y)) u nan)

-- value n = 8v + u is entry v of the transform of column u
unfoldable pub fdct_value : List ℕ → ℕ → Float
fdct_value block n = slice_index_or (fdct8 (column block (n % 8))) (n / 8) nan

unfoldable pub fdct_values : List ℕ → List Float
fdct_values block = tab 64 (fdct_value block)
