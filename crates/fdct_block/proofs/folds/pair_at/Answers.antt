use Prim.Native.Nat.{◌+◌, ◌^◌, ◌≤◌}
use mathlib.Core.Path.{◌≡◌, sym, subst, ◌∙◌}
use mathlib.Core.Bool.{Bool}
use native.Mathlib.Omega.{arith}
use borrow.Author.Rules.{rules}
use lib.ListN.{get_or}
use lib.IntN.{ℤ, pos, nat_abs, ◌+ℤ◌}
use mir.Syntax.{w16}
use mir.Val.{to_z, of_z}
use Rattle.basis.specs.Basis.{signed}
use Rattle.fdct_block.proofs.Narrow.{kept}
use Rattle.fdct_block.proofs.folds.pair_at.Goals as goal

paired : (t : Bool) (p q r : ℤ) → nat_abs p ≤ 2 ^ 11 → nat_abs q ≤ 2 ^ 11 → r ≡ p +ℤ signed t q → nat_abs r ≤ nat_abs p + nat_abs q → (to_z w16 (of_z w16 r) ≡ p +ℤ signed t q) × (nat_abs (to_z w16 (of_z w16 r)) ≤ 2 ^ 12)
paired t p q r hp hq e h = let k = kept r (omega arith) in (k ∙ e, subst (λ (z : ℤ). nat_abs z ≤ 2 ^ 12) (sym k) (omega arith))

pub pair-requires : goal.pair-requires
pair-requires c =
    let p = get_or c.args.samples.now c.args.i (pos 0) in
    let q = get_or c.args.samples.now c.args.j (pos 0) in
    let ep : to_z w16 (of_z w16 p) ≡ p = search rules in
    let eq : to_z w16 (of_z w16 q) ≡ q = search rules in
    (rw ep (omega (arith, c.requires.centred c.args.i)), rw eq (omega (arith, c.requires.centred c.args.j)))

pub returns : goal.returns
returns c =
    let p = get_or c.args.samples.now c.args.i (pos 0) in
    let q = get_or c.args.samples.now c.args.j (pos 0) in
    let ep : to_z w16 (of_z w16 p) ≡ p = search rules in
    let eq : to_z w16 (of_z w16 q) ≡ q = search rules in
    let e = rw (ep, eq) at c.pair.ensures.value in
    let b = rw (ep, eq) at c.pair.ensures.result_bound in
    let all = paired c.args.odd p q c.pair.result (c.requires.centred c.args.i) (c.requires.centred c.args.j) e b in
    record { value = all.0; result_bound = all.1 }
