use Rattle.std.proofs.Common.{w64, ◌^◌}
use Rattle.integers.proofs.Shift.{shl-wraps}
use Rattle.wrapping.proofs.I64Wrapping.shl.Goals as goal

pub returns : goal.returns
returns c = shl-wraps w64 (2 ^ c.args.bits) c.ranges.self
