-- Numbers that fit 32 bits with their level shift: how the code reads one, and that the rows of each size give such numbers.
-- Assumes nothing.
use mathlib.Core.Path.{◌≡◌, ap, ◌∙◌, subst, sym}
use mathlib.Core.Bool.{false}
use mathlib.Core.List.{List, [], ◌∷◌}
use Prim.Native.Nat.{ℕ, zero, suc, ◌+◌, ◌-◌, ◌*◌, ◌/◌, ◌%◌, ◌^◌, ◌<◌, ◌≤◌, zero-le}
use native.Mathlib.Nat.{mod-lt, div-lt_iff_lt-mul}
use native.Mathlib.Omega.{arith}
use lib.Dec.{T, ltb, ltb→lt, lit<}
use lib.ListN.{replicate}
use lib.Pow.{pow_pos}
use lib.IntN.{ℤ, pos, negsuc, nat_abs, ◌+ℤ◌, ◌*ℤ◌}
use lib.Signed.{lt_z, non_neg}
use mir.Facts.{and_yes}
use mir.Syntax.{w32, w64}
use mir.Val.{SFits, to_z, of_z}
use mir.ValLaws.{to_z-of_z}
use Rattle.integers.specs.Wrap.{wrap}
use Rattle.integers.specs.Floor.{floor_div}
use Rattle.integers.specs.Linear.{dot, weight}
use Rattle.integers.proofs.Ring.{*ℤ-assoc, nat_abs-+}
use Rattle.integers.proofs.Congruence.{Congruent, then, remainder}
use Rattle.integers.proofs.Wrap.{wrap-id, wrap-bits, wrap-read, of_z-congruent}
use Rattle.integers.proofs.Bound.{nat_abs-dot, small-fits}
use Rattle.lists.specs.Every.{Every}
use Rattle.lists.proofs.Every.{every-at, every-same}
use Rattle.gains.specs.Gains.{mirror, mirrored, upper2, gains2}
use Rattle.clamping.specs.Clamping.{clamp_to}
use Rattle.clamping.proofs.Clamp.{clamp-le, clamp-none, not-below, not-above}
use Rattle.passes.specs.Passes.{pass}
use Rattle.block.specs.Bound.{AtMost}
use Rattle.block.specs.Block.{row_of, row_at}
use Rattle.block.proofs.Exact.{exact_pass, light, pass-exact, exact-le, tab-at-most}

-- the low 32 bits of a 64-bit number
pub low_bits : (x : ℤ) → SFits w64 x → to_z w32 (of_z w64 x % 2 ^ 32) ≡ wrap w32 x
low_bits x f = wrap-bits w32 (mod-lt (of_z w64 x) (lit< tt)) (then (remainder (of_z w64 x)) (coarser (of_z-congruent w64 x f)))
  where
    coarser : {a b : ℤ} → Congruent (2 ^ 64) a b → Congruent (2 ^ 32) a b
    coarser {b = b} c = record { multiple = c.multiple *ℤ pos (2 ^ 32); is = c.is ∙ ap (λ (t : ℤ). b +ℤ t) (sym (*ℤ-assoc c.multiple (pos (2 ^ 32)) (pos (2 ^ 32)))) }

-- the low 32 bits of a small number, moved up
pub moved : {v x r : ℤ} → SFits w64 v → nat_abs v ≤ 2 ^ 31 - 2 ^ 12 → x ≡ wrap w32 (to_z w64 (of_z w64 v)) → r ≡ wrap w32 (to_z w32 (of_z w32 x) +ℤ pos 2048) → to_z w32 (of_z w32 r) ≡ v +ℤ pos 2048
moved {v} {x} f h ex er =
    let low : to_z w32 (of_z w32 x) ≡ v = wrap-read w32 v (ex ∙ ap (wrap w32) (to_z-of_z w64 v f)) ∙ wrap-id w32 v (small-fits w32 v (omega arith)) in
    wrap-read w32 (v +ℤ pos 2048) (er ∙ ap (λ (t : ℤ). wrap w32 (t +ℤ pos 2048)) low)
    ∙ wrap-id w32 (v +ℤ pos 2048) (small-fits w32 (v +ℤ pos 2048) (omega (arith, nat_abs-+ v (pos 2048))))

-- x, which is z, within the bounds: nothing is clamped
pub kept : (top : ℕ) {x z : ℤ} → x ≡ z → lt_z x (pos 0) ≡ false → lt_z (pos top) x ≡ false → T (non_neg x) × (nat_abs x ≤ top) × (nat_abs x ≡ clamp_to top z)
kept top {z = z} e g h =
    let n = not-below z (rw e at g) in
    let c = ap nat_abs (clamp-none top z n (not-above top z n (rw e at h))) in
    rw e (n, omega (arith, clamp-le top z, c), c)

-- ---- the rows

floor-small : (M m : ℕ) (z : ℤ) → 0 < m → nat_abs z < M * m → nat_abs (floor_div z m) ≤ M
floor-small M m (pos a) p h = let l : a / m < M = (div-lt_iff_lt-mul p).1 (omega arith) in omega arith
floor-small M m (negsuc a) p h = let l : a / m < M = (div-lt_iff_lt-mul p).1 (omega arith) in omega arith

module _ (M B s : ℕ) (p : List ℤ) (h : AtMost B p) where
  exact-small : (rows : List (List ℤ)) → T (light (M * 2 ^ s) B s rows) → AtMost M (exact_pass rows s p)
  unfolding exact_pass light
  exact-small [] t k = zero-le
  exact-small (row ∷ rows) t zero =
      let both = and_yes (ltb (weight row * B + 2 ^ (s - 1)) (M * 2 ^ s)) (light (M * 2 ^ s) B s rows) t in
      let l : weight row * B + 2 ^ (s - 1) < M * 2 ^ s = ltb→lt _ _ both.0 in
      floor-small M (2 ^ s) (dot row p +ℤ pos (2 ^ (s - 1))) (pow_pos s) (omega (arith, nat_abs-+ (dot row p) (pos (2 ^ (s - 1))), nat_abs-dot row p B h))
  exact-small (row ∷ rows) t (suc k) = exact-small rows (and_yes (ltb (weight row * B + 2 ^ (s - 1)) (M * 2 ^ s)) (light (M * 2 ^ s) B s rows) t).1 k

-- a column of 16-bit numbers is one of 33 bits
module _ (rows : List (List ℤ)) (s : ℕ) (t : T (light (2 ^ 63) (2 ^ 15) s rows)) (l : T (light (2 ^ 32) (2 ^ 15) s rows)) where
  column-small : (p : List ℤ) → AtMost (2 ^ 15) p → AtMost (2 ^ 32) (pass w64 rows s p)
  column-small p h = subst (AtMost (2 ^ 32)) (sym (pass-exact p (2 ^ 15) h s w64 rows t)) (exact-le p (2 ^ 15) h s (2 ^ 32) rows l)

pub column-small-two : (p : List ℤ) → AtMost (2 ^ 15) p → AtMost (2 ^ 32) (pass w64 gains2 14 p)
unfolding light weight mirror mirrored upper2 gains2
column-small-two = column-small gains2 14 tt tt

-- and so is one of zeros
pub zeros-small : (n : ℕ) → AtMost (2 ^ 32) (replicate n (pos 0))
zeros-small n = every-at (every-same (λ (z : ℤ). nat_abs z ≤ 2 ^ 32) n (pos 0) zero-le) (pos 0) zero-le

-- a row of numbers of 33 bits
module _ (rows : List (List ℤ)) (s : ℕ) (t : T (light (2 ^ 63) (2 ^ 32) s rows)) (l : T (light ((2 ^ 31 - 2 ^ 12) * 2 ^ s) (2 ^ 32) s rows)) where
  row_small : (cols : List (List ℤ)) (y : ℕ) → Every (AtMost (2 ^ 32)) cols → AtMost (2 ^ 31 - 2 ^ 12) (pass w64 rows s (row_of cols y))
  unfolding row_at
  row_small cols y h =
      let p = row_of cols y in
      let few = tab-at-most (2 ^ 32) 8 _ (λ u b. every-at h [] (λ k. zero-le) u y) in
      subst (AtMost (2 ^ 31 - 2 ^ 12)) (sym (pass-exact p (2 ^ 32) few s w64 rows t)) (exact-small (2 ^ 31 - 2 ^ 12) (2 ^ 32) s p few rows l)

pub row-small-two : (cols : List (List ℤ)) (y : ℕ) → Every (AtMost (2 ^ 32)) cols → AtMost (2 ^ 31 - 2 ^ 12) (pass w64 gains2 19 (row_of cols y))
unfolding light weight mirror mirrored upper2 gains2
row-small-two = row_small gains2 19 tt tt
