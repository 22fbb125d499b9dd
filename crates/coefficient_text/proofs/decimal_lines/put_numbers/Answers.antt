use mathlib.Core.Path.{◌≡◌, ap}
use native.Mathlib.Omega.{arith}
use borrow.Author.Rules.{rules}
use lib.IntN.{pos}
use lib.ListN.{get_or}
use mir.Syntax.{w16}
use mir.ValLaws.{to_z-of_z}
use Rattle.coefficient_text.specs.Lines.{numbers}
use Rattle.coefficient_text.proofs.Stores.{wrote_none, wrote_then, wrote_one, wrote_as, wrote-within}
use Rattle.coefficient_text.proofs.Decimal.{numbers_more}
use Rattle.coefficient_text.proofs.decimal_lines.put_numbers.Goals as goal

pub loop-n-init : goal.loop-n-init
unfolding numbers
loop-n-init c = wrote_none 0 _ 0

pub loop-n-preserved : goal.loop-n-preserved
loop-n-preserved c =
    let z = to_z-of_z w16 (get_or c.args.cs.now c.loop-n.n (pos 0)) (search rules) in
    let more = wrote_then c.loop-n.invariant (wrote_then c.put_decimal-at.ensures (wrote_one _ _ _)) in
    wrote-within _ (omega arith) (wrote_as (numbers_more _ _ z c.separator_of.ensures) more)

pub returns : goal.returns
returns c =
    let e : c.loop-n.n ≡ 64 = omega arith in
    wrote-within 448 (omega arith) (wrote_as (ap (numbers _) e) c.loop-n.invariant)
