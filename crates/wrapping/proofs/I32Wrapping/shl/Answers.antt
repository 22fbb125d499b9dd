use Rattle.std.proofs.Common.{w32, ◌^◌}
use Rattle.integers.proofs.Shift.{shl-wraps}
use Rattle.wrapping.proofs.I32Wrapping.shl.Goals as goal

pub returns : goal.returns
returns c = shl-wraps w32 (2 ^ c.args.bits) c.ranges.self
