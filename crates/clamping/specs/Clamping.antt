-- Document 01, leaf 1: clamping.
use Rattle.std.specs.Prelude.{ℕ, ◌-◌, min, ℤ, pos, negsuc, ◌+ℤ◌}
use Rattle.std.specs.Int.{w32}
use Rattle.integers.specs.Wrap.{wrap}

-- z clamped to 0..top
unfoldable pub clamp_to : ℕ → ℤ → ℕ
clamp_to top (pos n) = min n top
clamp_to top (negsuc n) = 0

-- v + 128 wrapped to 32 bits, then clamped to 0..255
unfoldable pub sample_u8 : ℤ → ℕ
sample_u8 v = clamp_to 255 (wrap w32 (v +ℤ pos 128))

-- v clamped to -half..half - 1
unfoldable pub centered : ℕ → ℤ → ℤ
centered half (pos n) = pos (min n (half - 1))
centered half (negsuc n) = negsuc (min n (half - 1))

-- v clamped to -128..127
unfoldable pub sample_centered : ℤ → ℤ
sample_centered v = centered 128 v

-- v + 2048 clamped to 0..4095; nothing wraps, however large v is
unfoldable pub sample12bit : ℤ → ℕ
sample12bit v = clamp_to 4095 (v +ℤ pos 2048)
