-- Document 01, leaf 2: what `islow_gain_bounds` gives, (11363, 61214).
use Rattle.std.specs.Prelude.{pos}
use Rattle.gains.specs.Gains.{gains, largest_gain, largest_l1}
use Rattle.gains.specs.declared.GainBounds.{GainBounds}

unfoldable pub gain_bounds : GainBounds
gain_bounds = record { max_gain = pos (largest_gain gains); max_l1 = pos (largest_l1 gains) }
