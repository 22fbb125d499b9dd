use Rattle.std.proofs.Common.{ap, pos, ◌∙◌, ◌+ℤ◌, ◌<◌, ◌^◌, w64, lit<, arith}
use lib.IntN.{nat_abs}
use mir.ValLaws.{to_z-of_z}
use Rattle.clamping.specs.Clamping.{clamp_to, sample12bit}
use Rattle.clamping.proofs.Clamp.{clamp-le, centered-read, centered-up}
use Rattle.clamping.proofs.sample_12bit.Goals as goal

pub returns : goal.returns
unfolding sample12bit
returns c =
    let sum = ap (λ z. z +ℤ pos 2048) (centered-read w64 2048 c.ranges.value (lit< tt) c.clamp.ensures.value) ∙ centered-up 2048 (lit< tt) c.args.value in
    let small : clamp_to 4095 (c.args.value +ℤ pos 2048) < 2 ^ 63 = omega (arith, clamp-le 4095 (c.args.value +ℤ pos 2048)) in
    rw sum (ap nat_abs (to_z-of_z w64 (pos (clamp_to 4095 (c.args.value +ℤ pos 2048))) (record { sfits = small })))
