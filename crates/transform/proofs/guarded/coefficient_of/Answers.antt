use Prim.Native.Nat.{◌/◌, ◌<◌}
use mathlib.Core.Path.{◌≡◌, sym, subst, ◌∙◌}
use mathlib.Core.Bool.{true, false, not}
use lib.Dec.{T}
use lib.IntN.{pos, ◌-ℤ◌}
use lib.Ieee.{Float, binary64, fits, is_nan, of_bits, add}
use mir.Syntax.{w16, w32}
use mir.Val.{SFits, to_z, of_z}
use Rattle.guarded_quantizer.specs.Binary64.{near_half, rounded_to_i16}
use Rattle.guarded_quantizer.proofs.Rounding.{rounded-fits}
use Rattle.guarded_quantizer.proofs.FixedPoint.{rounding-number, whole-part-most, settled-point}
use Rattle.transform.specs.Settled.{in_range, point, settled_point}
use Rattle.transform.proofs.Stored.{stored, chosen}
use Rattle.transform.proofs.Whole.{cast_fits, less-fits, whole-value}
use Rattle.transform.proofs.guarded.coefficient_of.Goals as goal

module _ (q : Float) (e : fits binary64 q ≡ true) (h : in_range q ≡ true) where
  fitted : T (fits binary64 q)
  fitted = subst T (sym e) tt

  -- the sum is a number
  number : T (not (is_nan (add binary64 q (of_bits binary64 0x4230_0000_8000_8000))))
  number = rounding-number q fitted h

  most : point q / 65536 < 65536
  most = whole-part-most q fitted h

  module _ (settled : settled_point (point q) ≡ true) where
    value : to_z w32 (of_z w32 (to_z w32 (point q / 65536) -ℤ pos 32768)) ≡ rounded_to_i16 q
    value = whole-value (point q / 65536) most ∙ sym (settled-point q fitted h settled).1

    value-fits : SFits w16 (to_z w32 (of_z w32 (to_z w32 (point q / 65536) -ℤ pos 32768)))
    value-fits = subst (SFits w16) (sym value) (rounded-fits q)

    not_near : false ≡ near_half q
    not_near = sym (settled-point q fitted h settled).0

pub returns-then-rest : goal.returns-then-rest
returns-then-rest c =
    let f = c.well_formed.0.1 in let h = c.if-scaled.true in let s = c.if-rest.true in
    chosen _ _ false (not_near c.args.scaled f h s) (value c.args.scaled f h s) (value-fits c.args.scaled f h s)

pub float_to_bits-point : goal.float_to_bits-point
float_to_bits-point c = number c.args.scaled c.well_formed.0.1 c.if-scaled.true

pub overflow_cast-result : goal.overflow_cast-result
overflow_cast-result c = cast_fits _ (most c.args.scaled c.well_formed.0.1 c.if-scaled.true)

pub overflow_sub-result : goal.overflow_sub-result
overflow_sub-result c = less-fits _ (most c.args.scaled c.well_formed.0.1 c.if-scaled.true)

pub overflow_cast-result-then-rest : goal.overflow_cast-result-then-rest
overflow_cast-result-then-rest c = value-fits c.args.scaled c.well_formed.0.1 c.if-scaled.true c.if-rest.true

pub returns : goal.returns
returns c = stored c.exact_coefficient.ensures.value c.exact_coefficient.ensures.sfits
