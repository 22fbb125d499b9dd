-- Document 02, card 2: "one strip of eight rows at a time"; "the last strip may be lower".
use Rattle.std.specs.Prelude.{List, ℕ, ◌-◌, ◌*◌, min, take, drop}

-- how many rows strip s of a plane of h rows has
unfoldable pub strip_rows : ℕ → ℕ → ℕ
strip_rows h s = min 8 (h - 8 * s)

-- its samples
unfoldable pub strip : List ℕ → ℕ → ℕ → ℕ → List ℕ
strip samples w h s = take (w * strip_rows h s) (drop (w * (8 * s)) samples)
