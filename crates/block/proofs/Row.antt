-- A row of numbers that the full pass does not wrap: its zero shortcut equals that pass, at each size, (2^s·p0 + 2^(s+4)) / 2^(s+5) being
-- (p0 + 16) / 32. So do rows of columns that fit 16 bits; and what a row gives fits 16 bits.
-- Assumes nothing.
use mathlib.Core.Path.{◌≡◌, sym, ap, ap₂, ◌∙◌}
use mathlib.Core.List.{List, []}
use Prim.Native.Nat.{ℕ, ◌+◌, ◌-◌, ◌*◌, ◌^◌, ◌<◌, ◌≤◌}
use native.Mathlib.Nat.{mul-le-mul_right}
use native.Mathlib.Omega.{arith}
use lib.Dec.{lit<, lit≤}
use lib.ListN.{length, replicate}
use lib.Pow.{pow_pos, pow-add, pow_mono}
use lib.IntN.{ℤ, pos, nat_abs, ◌+ℤ◌, ◌*ℤ◌, +ℤ_idr}
use mir.Syntax.{w32}
use Rattle.integers.specs.Wrap.{wrap}
use Rattle.integers.specs.Floor.{floor_div}
use Rattle.integers.specs.Linear.{dot, transform, listed, zero_at, blank}
use Rattle.integers.proofs.Ring.{*ℤ-+ℤ, nat_abs-+, nat_abs-*}
use Rattle.integers.proofs.Wrap.{wrap-id}
use Rattle.integers.proofs.Floor.{floor-cancel}
use Rattle.integers.proofs.Bound.{small-fits}
use Rattle.lists.specs.Below.{below}
use Rattle.gains.specs.Gains.{mirror, mirrored, upper, gains, upper2, gains2, skipped2}
use Rattle.scaling.specs.Scaling.{descaled}
use Rattle.scaling.proofs.Rounding.{descaled-exact}
use Rattle.passes.specs.Passes.{eight, two, dc, pass, row_pass}
use Rattle.block.proofs.Column.{shortcut}

solo-entry : (s : ℕ) → s ≤ 15 → (a : ℤ) → 2 ^ s * nat_abs a ≤ 2 ^ 30 → descaled w32 (wrap w32 (pos (2 ^ s) *ℤ a +ℤ pos 0)) (s + 5) ≡ descaled w32 a 5
solo-entry s h a m =
    let n : ℕ = 2 ^ s in
    let most : n ≤ 32768 = pow_mono h in
    let least : 0 < n = pow_pos s in
    let own : 1 * nat_abs a ≤ n * nat_abs a = mul-le-mul_right (nat_abs a) least in
    let half : 2 ^ (s + 5 - 1) ≡ n * 16 = ap (λ (k : ℕ). 2 ^ k) (omega arith) ∙ pow-add 2 s 4 in
    let whole : 2 ^ (s + 5) ≡ n * 32 = pow-add 2 s 5 in
    let size = nat_abs-* (pos n) a in
    let sum = nat_abs-+ (pos n *ℤ a) (pos (2 ^ (s + 5 - 1))) in
    let less = nat_abs-+ a (pos 16) in
    ap (λ (z : ℤ). descaled w32 z (s + 5)) (ap (wrap w32) (+ℤ_idr (pos n *ℤ a)) ∙ wrap-id w32 _ (small-fits w32 _ (omega arith)))
    ∙ descaled-exact w32 (pos n *ℤ a) (s + 5) (small-fits w32 _ (omega arith))
    ∙ ap₂ (λ (z : ℤ) (k : ℕ). floor_div z k) (ap (λ (k : ℕ). pos n *ℤ a +ℤ pos k) half ∙ sym (*ℤ-+ℤ (pos n) a (pos 16))) whole
    ∙ floor-cancel (a +ℤ pos 16) 32 n (lit< tt) least
    ∙ sym (descaled-exact w32 a 5 (small-fits w32 _ (omega arith)))

pub row-eight : (p : List ℤ) → length p ≡ 8 → nat_abs (dc p) ≤ 2 ^ 17 → pass w32 gains 18 p ≡ row_pass eight p
unfolding pass transform dot eight zero_at listed blank below mirror mirrored upper gains row_pass
row-eight = shortcut eight [] tt tt 18 (2 ^ 17) (λ a. descaled w32 a 5) (λ a m. ap (replicate 8) (solo-entry 13 (lit≤ tt) a (omega arith)))

pub row-two : (p : List ℤ) → length p ≡ 8 → nat_abs (dc p) ≤ 2 ^ 15 → pass w32 gains2 20 p ≡ row_pass two p
unfolding pass transform dot two zero_at listed blank below mirror mirrored upper2 gains2 row_pass
row-two = shortcut two skipped2 tt tt 20 (2 ^ 15) (λ a. descaled w32 a 5) (λ a m. ap (replicate 2) (solo-entry 15 (lit≤ tt) a (omega arith)))
