use Rattle.std.proofs.Common.{w32, ◌∙◌}
use Rattle.std.proofs.lemmas.Int.{wrapping_mul_is}
use Rattle.integers.proofs.Wrap.{int_wrap-is}
use Rattle.wrapping.proofs.I32Wrapping.mul.Goals as goal

pub returns : goal.returns
returns c = wrapping_mul_is w32 _ _ c.ranges.self c.ranges.other ∙ int_wrap-is w32 _
