use mathlib.Core.Path.{◌≡◌, refl, sym, ap, ◌∙◌}
use mathlib.Core.Bool.{Bool, ◌||◌, ◌&&◌}
use Prim.Native.Nat.{ℕ, ◌+◌}
use native.Mathlib.Omega.{arith}
use borrow.Author.Tests.{ne_eqb}
use Rattle.std.proofs.Math.Bool.{and_comm}
use lib.Dec.{eqb}
use lib.ListN.{get_or}
use lib.IntN.{pos}
use mir.Syntax.{w16}
use Rattle.integers.specs.Equal.{eq_z}
use Rattle.integers.proofs.Equal.{bits-eqb}
use Rattle.lists.specs.Below.{below}
use Rattle.lists.proofs.Below.{below_next, below_all}
use Rattle.guarded_quantizer.specs.Same.{same_ac}
use Rattle.transform.proofs.same.same_ac.Goals as goal

-- one place more, where the test stands second
below_more : (f : ℕ → Bool) (n : ℕ) {s t : Bool} → t ≡ f n → s ≡ below n f → (s && t) ≡ below (n + 1) f
below_more f n {s} {t} e h = and_comm s t ∙ below_next f n e h

pub loop-z-preserved : goal.loop-z-preserved
loop-z-preserved c =
    let l = c.loop-z in let x = get_or c.args.a.now l.z (pos 0) in
    let y = get_or c.args.b.now l.z (pos 0) in
    let agree = bits-eqb w16 {x = x} {y = y} (record { sfits = omega arith }) (record { sfits = omega arith }) in
    let later = ap (λ (t : Bool). t || eq_z x y) (sym (ne_eqb l.z 0 (λ e. omega arith))) in
    below_more (λ k. eqb k 0 || eq_z (get_or c.args.a.now k (pos 0)) (get_or c.args.b.now k (pos 0))) l.z (agree ∙ later) l.invariant

pub returns : goal.returns
unfolding same_ac
returns c =
    let l = c.loop-z in below_all _ l.z 64 l.invariant (omega arith)

pub loop-z-init : goal.loop-z-init
unfolding below
loop-z-init c = refl
