use mathlib.Core.Path.{◌≡◌}
use Prim.Native.Nat.{◌*◌}
use native.Mathlib.Omega.{arith}
use lib.IntN.{pos, nat_abs, ◌-ℤ◌}
use Rattle.integers.proofs.Difference.{distance}
use Rattle.fewest.specs.Fewest.{squared}
use Rattle.fewest.proofs.block_trial.squared_difference.Goals as goal

pub returns-clause-value : goal.returns-clause-value
unfolding squared
returns-clause-value c =
    let d : c.from-d.result ≡ nat_abs (pos c.args.a -ℤ pos c.args.b) = omega (arith, distance c.args.a c.args.b) in λ i. d i * d i
