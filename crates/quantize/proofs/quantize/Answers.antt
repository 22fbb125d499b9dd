use Prim.Native.Nat.{ℕ, ◌+◌, ◌*◌, ◌^◌, ◌<◌, ◌≤◌}
use mathlib.Core.Path.{◌≡◌, sym, ap, subst, ◌∙◌}
use native.Mathlib.Omega.{arith}
use lib.Dec.{leb}
use lib.IntN.{ℤ, nat_abs}
use mir.Syntax.{w16, w64}
use mir.Val.{SFits}
use mir.ValLaws.{to_z-of_z}
use Rattle.quantize.specs.Quantize.{divisor_of, rounded, with_sign, coefficient}
use Rattle.quantize.proofs.Halves.{sign_fits, sign-size}
use Rattle.quantize.proofs.Remainder.{rounded-by, quotient-small, one_more}
use Rattle.quantize.proofs.quantize.Goals as goal

-- |S|
absolute : (c : goal.After-unsigned_abs) → c.unsigned_abs.result ≡ nat_abs c.args.scaled
absolute c = c.unsigned_abs.ensures.value ∙ ap nat_abs (to_z-of_z w64 _ c.ranges.scaled)

pub divide-division-requires : goal.divide-division-requires
divide-division-requires c =
    let d = c.scaled_divisor-divisor.ensures in record { size_bound = omega (arith, absolute c, c.requires); divisor_nonzero = (d.result_nonzero.0, d.result_nonzero.1, omega (arith, d.value)) }

-- the quotient is small
small : (c : goal.After-divide-division) → c.divide-division.result.quotient ≤ 2 ^ 14
unfolding divisor_of
small c =
    let d = c.scaled_divisor-divisor.ensures.value in let q = c.divide-division.result.quotient in let whole = ap (λ (m : ℕ). q * m + c.divide-division.result.remainder) (sym d) ∙ c.divide-division.ensures.remainder_value in
    quotient-small q c.divide-division.result.remainder (divisor_of c.args.quantizer) whole (omega arith) (omega (arith, absolute c.before, c.requires))

-- and what it rounds to is the coefficient's absolute value
size : (c : goal.After-round_by_remainder-size) → let s = c.args in (c.round_by_remainder-size.result ≡ rounded (nat_abs s.scaled) (divisor_of s.quantizer * 2 ^ 32)) × (c.round_by_remainder-size.result < 2 ^ 15)
size c =
    let r = c.divide-division.result in let d = c.scaled_divisor-divisor.ensures.value in (c.round_by_remainder-size.ensures ∙ rounded-by r.quotient r.remainder c.divide-division.ensures.remainder_value c.divide-division.ensures.remainder_lt_divisor ∙ (λ i. rounded (absolute c.before.before i) (d i)), omega (arith, c.round_by_remainder-size.ensures, small c.before, one_more (leb c.scaled_divisor-divisor.result (2 * r.remainder))))

pub returns : goal.returns
unfolding coefficient
returns c =
    let scaled = to_z-of_z w64 _ c.ranges.scaled in let signed = c.with_sign.ensures ∙ (λ i. with_sign (scaled i) ((size c.before).0 i)) in let fits : rounded (nat_abs c.args.scaled) (divisor_of c.args.quantizer * 2 ^ 32) < 2 ^ 15 = omega (arith, size c.before) in let value = to_z-of_z w16 _ (subst (SFits w16) (sym signed) (sign_fits c.args.scaled fits)) ∙ signed in record { value = value; result_bound = subst (λ (z : ℤ). nat_abs z < 2 ^ 15) (sym value) (omega (arith, sign-size c.args.scaled (rounded (nat_abs c.args.scaled) (divisor_of c.args.quantizer * 2 ^ 32)))) }

pub round_by_remainder-size-requires : goal.round_by_remainder-size-requires
round_by_remainder-size-requires c = (omega (arith, small c), omega (arith, c.divide-division.ensures.remainder_lt_divisor, c.scaled_divisor-divisor.ensures.result_nonzero.1))

pub with_sign-requires : goal.with_sign-requires
with_sign-requires c = (size c).1
