use Prim.Native.Nat.{◌-◌}
use native.Mathlib.Omega.{arith}
use Rattle.coefficient_text.specs.Stores.{Wrote}
use Rattle.coefficient_text.proofs.Stores.{wrote_none, wrote_one, wrote_then, wrote_as, wrote-within}
use Rattle.coefficient_text.proofs.Decimal.{above, above-none, above-some, digits_last}
use Rattle.coefficient_text.proofs.decimal_lines.+put_digits.Goals as goal
use Rattle.coefficient_text.proofs.decimal_lines.+put_digits.Goals.{then-n-ge10, else-n-ge10}

pub returns : goal.returns
returns t c =
    -- where the two ways meet the digits above the last are written
    let joined : Wrote (c.args.k - 1) c.args.out.now c.args.at (above c.args.k c.args.n) c.if-n-ge10.out c.if-n-ge10.last =
    elim c.if-n-ge10.branch [
      | then-n-ge10 w ↦ rw (w.out-is, w.last-is, above-some c.args.k c.args.n w.if-n-ge10.true) w.put_digits-last.ensures
      | else-n-ge10 w ↦ rw (w.out-is, w.last-is, above-none c.args.k c.args.n w.if-n-ge10.false) (wrote_none _ _ _)
    ] in
    wrote_as (digits_last _ _ c.requires.k_nonzero) (wrote-within _ (omega arith) (wrote_then joined (wrote_one _ _ _)))
