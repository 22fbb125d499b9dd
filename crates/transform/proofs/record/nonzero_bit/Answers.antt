use mathlib.Core.Path.{◌≡◌, refl, ◌∙◌}
use mathlib.Core.Bool.{Bool, true, false, cond, not}
use mir.Val.{bool_byte}
use Rattle.guarded_quantizer.proofs.Bitmap.{bits-nonzero}
use Rattle.transform.proofs.record.nonzero_bit.Goals as goal

flipped : (t : Bool) → bool_byte (not t) ≡ cond t 0 1
flipped true = refl
flipped false = refl

pub returns : goal.returns
returns c = c.from.ensures ∙ flipped _ ∙ bits-nonzero c.args.coefficient c.ranges.coefficient.sfits refl
