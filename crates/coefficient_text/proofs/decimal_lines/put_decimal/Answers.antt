use mathlib.Core.Path.{◌≡◌, ap, ◌∙◌}
use mathlib.Core.List.{◌∷◌}
use Prim.Native.Nat.{ℕ, ◌<◌}
use native.Mathlib.Omega.{arith}
use lib.IntN.{ℤ, nat_abs}
use mir.Facts.{sfits_widen, sfits_to_z, Fits-of_z}
use mir.Syntax.{w16, w64}
use mir.Val.{SFits, to_z, of_z}
use mir.ValLaws.{to_z-of_z}
use Rattle.coefficient_text.specs.Lines.{digits}
use Rattle.coefficient_text.proofs.Stores.{wrote_then, wrote_one, wrote_as, wrote-within}
use Rattle.coefficient_text.proofs.Decimal.{size_small, decimal-negative, decimal-other}
use Rattle.coefficient_text.proofs.decimal_lines.put_decimal.Goals as goal

-- the size as it is computed is the number's
size : (z : ℤ) {n : ℕ} → SFits w16 z → n ≡ nat_abs (to_z w64 (of_z w64 (to_z w16 (of_z w16 z)))) → n ≡ nat_abs z
size z s e = e ∙ ap nat_abs (to_z-of_z w64 _ (sfits_widen tt (sfits_to_z (Fits-of_z s))) ∙ to_z-of_z w16 z s)

small : (z : ℤ) {n : ℕ} → SFits w16 z → n ≡ nat_abs (to_z w64 (of_z w64 (to_z w16 (of_z w16 z)))) → n < 100000
small z s e = omega (arith, size z s e, size_small z s)

pub put_digits-requires-clause-n_bound : goal.put_digits-requires-clause-n_bound
put_digits-requires-clause-n_bound c = small _ c.ranges.z c.unsigned_abs-size.ensures.value

pub returns-then-z-lt0 : goal.returns-then-z-lt0
returns-then-z-lt0 c =
    let bytes = ap (λ (n : ℕ). 45 ∷ digits 5 n) (size _ c.ranges.z c.unsigned_abs-size.ensures.value) ∙ decimal-negative c.args.z (rw (to_z-of_z w16 c.args.z c.ranges.z) at c.if-z-lt0.true) in
    wrote_as bytes (wrote_then (wrote_one _ _ 45) c.put_digits.ensures)

pub put_digits-requires-2-clause-n_bound : goal.put_digits-requires-2-clause-n_bound
put_digits-requires-2-clause-n_bound c = small _ c.ranges.z c.unsigned_abs-size.ensures.value

pub returns : goal.returns
returns c =
    let bytes = ap (digits 5) (size _ c.ranges.z c.unsigned_abs-size.ensures.value) ∙ decimal-other c.args.z (rw (to_z-of_z w16 c.args.z c.ranges.z) at c.if-z-lt0.false) in
    wrote_as bytes (wrote-within 6 (omega arith) c.put_digits-2.ensures)
