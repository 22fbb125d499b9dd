use mathlib.Core.Path.{◌≡◌}
use native.Mathlib.Omega.{arith}
use lib.IntN.{pos, ◌+ℤ◌}
use mir.Syntax.{w32}
use mir.Val.{to_z, of_z}
use Rattle.clamping.specs.Clamping.{sample12bit}
use Rattle.clamping.proofs.Clamp.{clamp-low, clamp-high}
use Rattle.idct_12bit.proofs.Small.{moved, kept}
use Rattle.idct_12bit.proofs.samples_12bit.sample_small.Goals as goal

pub overflow_cast-result : goal.overflow_cast-result
overflow_cast-result c =
    let k = kept 4095 ((let it : to_z w32 (of_z w32 c.add-shifted.result) ≡ c.args.value +ℤ pos 2048 = moved c.ranges.value c.requires c.low_32.ensures c.add-shifted.ensures in it)) c.if-shifted-lt0.false c.if-shifted-gt4095.false in
    (k.0, record { fits = omega (arith, k.1) })

pub low_32-requires : goal.low_32-requires
unfolding sample12bit
low_32-requires c = tt

pub add-shifted-requires : goal.add-shifted-requires
unfolding sample12bit
add-shifted-requires c = tt

pub returns-then-shifted-lt0 : goal.returns-then-shifted-lt0
unfolding sample12bit
returns-then-shifted-lt0 c = clamp-low 4095 ((let it : to_z w32 (of_z w32 c.add-shifted.result) ≡ c.args.value +ℤ pos 2048 = moved c.ranges.value c.requires c.low_32.ensures c.add-shifted.ensures in it)) c.if-shifted-lt0.true

pub returns-then-shifted-gt4095 : goal.returns-then-shifted-gt4095
unfolding sample12bit
returns-then-shifted-gt4095 c = clamp-high 4095 ((let it : to_z w32 (of_z w32 c.add-shifted.result) ≡ c.args.value +ℤ pos 2048 = moved c.ranges.value c.requires c.low_32.ensures c.add-shifted.ensures in it)) c.if-shifted-gt4095.true

pub returns : goal.returns
unfolding sample12bit
returns c = (kept 4095 ((let it : to_z w32 (of_z w32 c.add-shifted.result) ≡ c.args.value +ℤ pos 2048 = moved c.ranges.value c.requires c.low_32.ensures c.add-shifted.ensures in it)) c.if-shifted-lt0.false c.if-shifted-gt4095.false).2
