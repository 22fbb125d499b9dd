use Prim.Native.Nat.{◌<◌, ◌/◌}
use native.Mathlib.Omega.{arith}
use Rattle.transform.proofs.Stored.{stored}
use Rattle.transform.proofs.Whole.{cast_fits, less-fits, whole-value, part-fits}
use Rattle.transform.proofs.guarded.whole_part.Goals as goal

most : (c : goal.Start) → c.args.point / 65536 < 65536
most c = omega (arith, c.ranges.point.fits)

pub overflow_cast-result : goal.overflow_cast-result
overflow_cast-result c = cast_fits _ (most c)

pub overflow_sub-result : goal.overflow_sub-result
overflow_sub-result c = less-fits _ (most c)

pub overflow_cast-result-2 : goal.overflow_cast-result-2
overflow_cast-result-2 c = part-fits _ (most c)

pub returns : goal.returns
returns c = stored (whole-value _ (most c)) (part-fits _ (most c))
