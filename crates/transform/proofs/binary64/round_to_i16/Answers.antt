use mathlib.Core.Path.{◌≡◌, sym, subst}
use mathlib.Core.Bool.{true}
use Prim.Native.Nat.{◌^◌, ◌≤◌, min}
use native.Mathlib.Omega.{arith}
use borrow.Author.Tests.{lt-leb, le-leb}
use lib.Dec.{T}
use lib.IntN.{ℤ}
use lib.Ieee.{Float, binary64, fits, to_bits}
use mir.Syntax.{w16}
use mir.Val.{SFits}
use Rattle.integers.proofs.Word.{flips}
use Rattle.guarded_quantizer.specs.Binary64.{rounded_to_i16}
use Rattle.guarded_quantizer.proofs.Fields.{no_nan, exponent}
use Rattle.guarded_quantizer.proofs.Rounding.{fitting, nan-to-zero, small-to-zero, highest, lowest, Middle, count, twice_most, count-least, one_less, counts, counts-down}
use Rattle.transform.proofs.binary64.round_to_i16.Goals as goal
use Rattle.transform.proofs.binary64.round_to_i16.Goals.{then-n-lt32768, else-n-lt32768}

fitted : (q : Float) → fits binary64 q ≡ true → T (fits binary64 q)
fitted q e = subst T (sym e) tt

middle : {q : Float} → fits binary64 q ≡ true → 1022 ≤ exponent q → exponent q ≤ 1037 → Middle q
middle e l h = record { held = fitted _ e; low = l; high = h }

both : (q : Float) {r : ℤ} → r ≡ rounded_to_i16 q → record { value : r ≡ rounded_to_i16 q; sfits : SFits w16 r }
both q e = let all = fitting q e in record { value = all.0; sfits = all.1 }

pub returns-then-q : goal.returns-then-q
returns-then-q c = both _ (nan-to-zero _ c.if-q.true)

pub float_to_bits-bits : goal.float_to_bits-bits
float_to_bits-bits c = no_nan _ c.if-q.false

pub returns-then-e-lt1022 : goal.returns-then-e-lt1022
returns-then-e-lt1022 c = both _ (small-to-zero _ (fitted _ c.well_formed.0.1) c.if-e-lt1022.true)

pub returns-then-bits-lt9223372036854775808 : goal.returns-then-bits-lt9223372036854775808
returns-then-bits-lt9223372036854775808 c =
    both _ (highest _ (fitted _ c.well_formed.0.1) c.if-q.false c.if-e-gt1037.true (lt-leb (2 ^ 63) (to_bits binary64 c.args.q) c.if-bits-lt9223372036854775808.true))

pub returns-then-e-gt1037 : goal.returns-then-e-gt1037
returns-then-e-gt1037 c =
    both _ (lowest _ (fitted _ c.well_formed.0.1) c.if-q.false c.if-e-gt1037.true (le-leb (2 ^ 63) (to_bits binary64 c.args.q) c.if-bits-lt9223372036854775808.false))

pub overflow_add-n : goal.overflow_add-n
overflow_add-n c = omega (arith, twice_most (middle c.well_formed.0.1 c.if-e-lt1022.false c.if-e-gt1037.false))

pub overflow_cast-result : goal.overflow_cast-result
overflow_cast-result c = elim c.if-n-lt32768.branch [ then-n-lt32768 w ↦ record { sfits = omega arith } | else-n-lt32768 w ↦ record { sfits = omega arith } ]

pub returns-then-bits-lt9223372036854775808-2 : goal.returns-then-bits-lt9223372036854775808-2
returns-then-bits-lt9223372036854775808-2 c =
    let m = middle c.well_formed.0.1 c.if-e-lt1022.false c.if-e-gt1037.false in
    let capped : c.if-n-lt32768.capped ≡ min (count c.args.q) 32767 = elim c.if-n-lt32768.branch [ then-n-lt32768 w ↦ omega arith | else-n-lt32768 w ↦ omega arith ] in
    both _ (counts m capped (lt-leb (2 ^ 63) (to_bits binary64 c.args.q) c.if-bits-lt9223372036854775808-2.true))

pub overflow_sub-result : goal.overflow_sub-result
overflow_sub-result c = count-least (middle c.well_formed.0.1 c.if-e-lt1022.false c.if-e-gt1037.false)

pub overflow_cast-result-2 : goal.overflow_cast-result-2
overflow_cast-result-2 c = one_less (middle c.well_formed.0.1 c.if-e-lt1022.false c.if-e-gt1037.false)

pub overflow_sub-result-2 : goal.overflow_sub-result-2
overflow_sub-result-2 c = flips w16 (one_less (middle c.well_formed.0.1 c.if-e-lt1022.false c.if-e-gt1037.false))

pub returns : goal.returns
returns c =
    let m = middle c.well_formed.0.1 c.if-e-lt1022.false c.if-e-gt1037.false in
    both _ (counts-down m (le-leb (2 ^ 63) (to_bits binary64 c.args.q) c.if-bits-lt9223372036854775808-2.false))
