use Prim.Native.Nat.{ℕ, ◌+◌, ◌*◌, ◌/◌, ◌%◌, ◌^◌, ◌<◌, ◌≤◌}
use mathlib.Core.Path.{◌≡◌, refl, sym, ap, subst, ◌∙◌}
use mathlib.Core.List.{List}
use native.Mathlib.Omega.{arith}
use lib.IntN.{ℤ, nat_abs}
use mir.Syntax.{w16}
use mir.Val.{to_z, of_z}
use Rattle.lists.proofs.Tab.{Filled, none, more, all}
use Rattle.forward.specs.Parity.{folded, folded_quadrant}
use Rattle.forward.proofs.Scaled.{fold-size}
use Rattle.fdct_block.specs.Ready.{Folded}
use Rattle.fdct_block.proofs.Narrow.{kept}
use Rattle.fdct_block.proofs.folds.fold.Invariants.{at}
use Rattle.fdct_block.proofs.folds.fold.Goals as goal

-- the fold at column x of row y is place 4y + x
read : (c : List ℤ) (u v x y : ℕ) → x < 4 → (r : ℤ) → r ≡ folded c u v x y → nat_abs r ≤ 2 ^ 13 → to_z w16 (of_z w16 r) ≡ at c u v (4 * y + x)
read c u v x y h r e b =
    let ex : x ≡ (4 * y + x) % 4 = omega arith in
    let ey : y ≡ (4 * y + x) / 4 = omega arith in
    kept r (omega arith) ∙ e ∙ (λ i. folded c u v (ex i) (ey i))

pub loop-y-preserved : goal.loop-y-preserved
loop-y-preserved c =
    let y : ℕ = c.loop-y.y in
    let read' = read c.args.samples.now c.args.u c.args.v in
    let g : ℕ → ℤ = at c.args.samples.now c.args.u c.args.v in
    let v0 = read' 0 y (omega arith) c.fold_at-first.result c.fold_at-first.ensures.value c.fold_at-first.ensures.result_bound in
    let v1 = read' 1 y (omega arith) c.fold_at-second.result c.fold_at-second.ensures.value c.fold_at-second.ensures.result_bound in
    let v2 = read' 2 y (omega arith) c.fold_at-third.result c.fold_at-third.ensures.value c.fold_at-third.ensures.result_bound in
    let v3 = read' 3 y (omega arith) c.fold_at-fourth.result c.fold_at-fourth.ensures.value c.fold_at-fourth.ensures.result_bound in
    let zero' : 4 * y + 0 ≡ 4 * y = omega arith in
    let s1 = more g 16 (4 * y) (4 * y + 1) _ _ c.loop-y.invariant (omega arith) refl (v0 ∙ ap g zero') in
    let s2 = more g 16 (4 * y + 1) (4 * y + 2) _ _ s1 (omega arith) (omega arith) v1 in
    let s3 = more g 16 (4 * y + 2) (4 * y + 3) _ _ s2 (omega arith) (omega arith) v2 in
    more g 16 (4 * y + 3) (4 * (y + 1)) _ _ s3 (omega arith) (omega arith) v3

whole : (c : List ℤ) (u v : ℕ) (f : List ℤ) (y : ℕ) → Filled (at c u v) 16 (4 * y) f → y ≤ 4 → 4 ≤ y → f ≡ folded_quadrant c u v
unfolding folded_quadrant
whole c u v f y h a b = all (at c u v) 16 (4 * y) f h (omega arith) (omega arith)

pub returns : goal.returns
returns c =
    let l = c.loop-y in
    let e = whole c.args.samples.now c.args.u c.args.v _ l.y l.invariant (omega arith) (omega arith) in
    record {
      quadrant_after = e;
      folded = subst Folded (sym e) (λ k. omega (arith, fold-size c.args.samples.now (2 ^ 11) c.requires.centred c.args.u c.args.v k));
    }

pub loop-y-init : goal.loop-y-init
loop-y-init c = none _ 16 _ c.told-quadrant
