use Prim.Native.Nat.{ℕ, ◌≤◌, ◌<◌, ◌-◌}
use mathlib.Core.Path.{◌≡◌, refl, sym, ap, ◌∙◌}
use mathlib.Core.List.{List}
use native.Mathlib.Omega.{arith}
use lib.ListN.{get_or}
use lib.IntN.{ℤ}
use mir.Syntax.{w16}
use mir.ValLaws.{to_z-of_z}
use Rattle.lists.specs.Tab.{tab}
use Rattle.lists.proofs.Tab.{more, all}
use Rattle.zigzag.specs.Zigzag.{zigzag_order}
use Rattle.forward.specs.Sum.{total}
use Rattle.guarded_quantizer.specs.Bitmap.{with_bit, nonzero, bitmap_of}
use Rattle.guarded_quantizer.specs.Record.{ac_places}
use Rattle.guarded_quantizer.proofs.Bitmap.{up_to, bit_at, update-next}
use Rattle.guarded_quantizer.proofs.Order.{ac-index}
use Rattle.guarded_quantizer.proofs.Record.{ac-at, ac-place, whole}
use Rattle.transform.proofs.record.from_natural_order.Invariants.{natural}
use Rattle.transform.proofs.record.from_natural_order.Goals as goal

pub loop-z-init : goal.loop-z-init
unfolding tab total
loop-z-init c = (record { long = refl; front = refl }, refl)

-- the index at place z
index : {l : List ℕ} (z : ℕ) → l ≡ zigzag_order → 1 ≤ z → z < 64 → get_or l z 0 < 64
index z e a h = rw e (ac-index z a h).1

pub loop-z-preserved : goal.loop-z-preserved
loop-z-preserved c =
    let l = c.loop-z in let cs = c.args.coefficients.now in let n = get_or c.zigzag-order.result l.z 0 in
    let back = to_z-of_z w16 (natural cs n) (record { sfits = omega arith }) in
    let stored = back ∙ ap (λ (t : List ℕ). natural cs (get_or t l.z 0)) c.zigzag-order.ensures in
    let place = stored ∙ sym (ac-place (natural cs) l.z (omega arith) (omega arith)) in
    let next = update-next (ac_places (natural cs)) l.z l.nonzero_ac (omega arith) (omega arith) l.invariant.1 in
    (more _ 64 _ _ _ _ l.invariant.0 (omega arith) refl (stored ∙ sym (ac-at (natural cs) l.z (omega arith))), c.update_nonzero_ac-nonzero_ac.ensures ∙ ap (λ (x : ℤ). with_bit l.nonzero_ac (64 - l.z) (nonzero x)) place ∙ next)

pub returns : goal.returns
unfolding bitmap_of ac_places
returns c =
    let l = c.loop-z in let cs = c.args.coefficients.now in let dc = to_z-of_z w16 (natural cs 0) (record { sfits = omega arith }) in
    let ac = all _ 64 _ _ l.invariant.0 (omega arith) (omega arith) in
    let e : l.z ≡ 64 = omega arith in
    whole _ (natural cs) dc ac (l.invariant.1 ∙ ap (up_to (bit_at (ac_places (natural cs)))) e ∙ ap bitmap_of (sym ac)) refl

pub overflow_cast-coefficient : goal.overflow_cast-coefficient
overflow_cast-coefficient c = omega (arith, index c.loop-z.z c.zigzag-order.ensures (omega arith) (omega arith))

pub bounds-coefficients-order : goal.bounds-coefficients-order
bounds-coefficients-order c = index c.loop-z.z c.zigzag-order.ensures (omega arith) (omega arith)
