-- The f64 literals of transform.rs.
use Rattle.std.specs.Prelude.{ℕ, ◌^◌, false}
use Rattle.std.specs.Prelude.{Float}
use Rattle.std.specs.Float.{binary64}
use Rattle.std.specs.Float.Ieee.{round}

-- the literal with the digits n, k of them after the point: the binary64 number nearest to n / 10^k
unfoldable pub decimal : ℕ → ℕ → Float
decimal n k = round binary64 false n (10 ^ k)

-- `core::f64::consts::FRAC_1_SQRT_2`
unfoldable pub frac1_sqrt2 : Float
frac1_sqrt2 = decimal 707106781186547524400844362104849039 36
