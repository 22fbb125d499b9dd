-- What the level shift asks: a centre of at most 2048, and samples from 0 to twice the centre. Samples of up to 12 bits have that.
use Rattle.std.specs.Prelude.{List, ℕ, ◌*◌, ◌^◌, ◌<◌, ◌≤◌, get_or}

pub record Level (block : List ℕ) (centre : ℕ) : Type 0 where
  pub low : centre ≤ 2 ^ 11
  pub most : (i : ℕ) → i < 64 → get_or block i 0 ≤ 2 * centre
