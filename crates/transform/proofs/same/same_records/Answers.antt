use mathlib.Core.Bool.{◌&&◌}
use native.Mathlib.Omega.{arith}
use mir.Syntax.{w16}
use Rattle.integers.proofs.Equal.{bits-eqb}
use Rattle.guarded_quantizer.specs.Same.{same_numbers, same_records}
use Rattle.transform.proofs.same.same_records.Goals as goal

pub returns : goal.returns
unfolding same_numbers same_records
returns c =
    let dc = bits-eqb w16 (record { sfits = omega arith }) (record { sfits = omega arith }) in
    λ i. (dc i && c.same_ac.ensures i) && c.same_divisors.ensures i
