use mathlib.Core.Path.{◌≡◌, sym, subst}
use mathlib.Core.Bool.{true}
use lib.Dec.{T}
use lib.Ieee.{Float, binary64, fits}
use Rattle.guarded_quantizer.proofs.Fields.{no_nan}
use Rattle.guarded_quantizer.proofs.NearHalf.{nan-not-near, small-not-near, whole-not-near, under-part, over-part}
use Rattle.transform.proofs.binary64.near_half.Goals as goal

fitted : (q : Float) → fits binary64 q ≡ true → T (fits binary64 q)
fitted q e = subst T (sym e) tt

pub returns-then-q : goal.returns-then-q
returns-then-q c = nan-not-near _ c.if-q.true

pub float_to_bits-bits : goal.float_to_bits-bits
float_to_bits-bits c = no_nan _ c.if-q.false

pub returns-then-e-lt1021 : goal.returns-then-e-lt1021
returns-then-e-lt1021 c = small-not-near _ (fitted _ c.well_formed.0.1) c.if-e-lt1021.true

pub returns-then-e-gt1075 : goal.returns-then-e-gt1075
returns-then-e-gt1075 c = whole-not-near _ (fitted _ c.well_formed.0.1) c.if-q.false c.if-e-gt1075.true

pub returns-then-f-le9007164895002624 : goal.returns-then-f-le9007164895002624
returns-then-f-le9007164895002624 c = under-part _ (fitted _ c.well_formed.0.1) c.if-e-lt1021.false c.if-e-gt1075.false c.if-f-le9007164895002624.true

pub returns : goal.returns
returns c = over-part _ (fitted _ c.well_formed.0.1) c.if-e-lt1021.false c.if-e-gt1075.false c.if-f-le9007164895002624.false
