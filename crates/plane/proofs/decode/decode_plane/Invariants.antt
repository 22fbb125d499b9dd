use Prim.Native.Nat.{◌+◌, ◌*◌}
use Rattle.plane.specs.Scale.{scale_of}
use Rattle.plane.proofs.Counts.{Sums}
use Rattle.plane.proofs.Decoding.{Decoded}
use Rattle.plane.proofs.decode.decode_plane.Given as goal

abbrev pub invariant-loop-x : goal.invariant-loop-x
invariant-loop-x l =
    Decoded (scale_of l.scale) l.stored.coefficients.now l.stored.width l.wide l.high l.stored.quant.now (l.across * l.y + l.x) l.out
    × Sums (scale_of l.scale) l.stored.coefficients.now l.stored.quant.now (l.across * l.y + l.x) l.raised l.lowered

abbrev pub invariant-loop-y : goal.invariant-loop-y
invariant-loop-y l =
    Decoded (scale_of l.scale) l.stored.coefficients.now l.stored.width l.wide l.high l.stored.quant.now (l.across * l.y) l.out
    × Sums (scale_of l.scale) l.stored.coefficients.now l.stored.quant.now (l.across * l.y) l.raised l.lowered
