use Rattle.std.proofs.Common.{w64, ◌∙◌}
use Rattle.std.proofs.lemmas.Int.{wrapping_sub_is}
use Rattle.integers.proofs.Wrap.{int_wrap-is}
use Rattle.wrapping.proofs.I64Wrapping.sub.Goals as goal

pub returns : goal.returns
returns c = wrapping_sub_is w64 _ _ c.ranges.self c.ranges.other ∙ int_wrap-is w64 _
