use mathlib.Core.Path.{◌≡◌, ap, ◌∙◌}
use native.Mathlib.Omega.{arith}
use borrow.Author.Rules.{rules}
use lib.ListN.{get_or}
use lib.IntN.{ℤ, pos}
use mir.Syntax.{w16, w32}
use mir.Val.{to_z, of_z}
use mir.ValLaws.{to_z-of_z}
use Rattle.integers.specs.Fits16.{Fits16}
use Rattle.integers.proofs.Fits16.{fits16-zero}
use Rattle.lists.proofs.Every.{every-at}
use Rattle.lists.proofs.Tab.{none, next, filled, tab-get_d}
use Rattle.round_trip.proofs.write_i16.Goals as goal

pub loop-n-init : goal.loop-n-init
loop-n-init c = none _ 64 _ c.requires.products_len.1

pub overflow_cast-out : goal.overflow_cast-out
overflow_cast-out c =
    let fits : Fits16 (get_or c.args.products.now c.loop-n.n (pos 0)) = every-at c.requires.every (pos 0) fits16-zero c.loop-n.n in
    let e : to_z w32 (of_z w32 (get_or c.args.products.now c.loop-n.n (pos 0))) ≡ get_or c.args.products.now c.loop-n.n (pos 0) = search rules in
    rw e fits

pub loop-n-preserved : goal.loop-n-preserved
loop-n-preserved c =
    let fits : Fits16 (get_or c.args.products.now c.loop-n.n (pos 0)) = every-at c.requires.every (pos 0) fits16-zero c.loop-n.n in
    let e : to_z w32 (of_z w32 (get_or c.args.products.now c.loop-n.n (pos 0))) ≡ get_or c.args.products.now c.loop-n.n (pos 0) = search rules in
    next c.loop-n.invariant (omega arith) (ap (λ (z : ℤ). to_z w16 (of_z w16 z)) e ∙ to_z-of_z w16 _ fits)

pub returns : goal.returns
returns c = filled c.loop-n.invariant (omega arith) ∙ tab-get_d (pos 0) _ 64 c.requires.products_len.0
