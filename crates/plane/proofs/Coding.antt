-- Coding a plane: where a block is read, what a turn of the loop over the blocks adds, and what holds where no test fails.
-- Assumes nothing.
use mathlib.Core.Path.{◌≡◌, sym, ap, subst, ◌∙◌}
use mathlib.Core.Bool.{true}
use mathlib.Core.List.{List}
use Prim.Native.Nat.{ℕ, ◌+◌, ◌-◌, ◌*◌, ◌/◌, ◌%◌, ◌≤◌, ◌<◌, min}
use native.Mathlib.Nat.{mul-le-mul, le_of_eq, le_trans}
use native.Mathlib.Omega.{arith}
use borrow.Author.Tests.{eqb-true}
use lib.Dec.{T, leb, leb→le}
use lib.ListN.{length, get_or, take, drop, length-drop}
use lib.Seq.{paste, length-take-le, get_or-take, get_or-drop}
use lib.IntN.{ℤ}
use mir.Facts.{and_yes}
use Rattle.lists.specs.Tab.{tab}
use Rattle.lists.specs.Grid.{grid, at}
use Rattle.lists.proofs.Tab.{Filled, none, same, all, filled-paste, by-elements, tab-ext, length-tab}
use Rattle.lists.proofs.Grid.{index, column-of, row_of, length-grid}
use Rattle.lists.proofs.Parts.{back, part-back}
use Rattle.refusals.specs.Refusals.{status}
use Rattle.refusals.proofs.Refusals.{passed-all}
use Rattle.forward.specs.Canonical.{canonical, coefficients_at, coefficients}
use Rattle.plane.specs.Plane.{blocks, sample_at, block_at, block_of, plane_coefficients, measured, forward_tests}
use Rattle.plane.specs.Ready.{PlaneOf}

-- sample i of the block in column x and row y of blocks
abbrev pub sample_of : List ℕ → ℕ → ℕ → ℕ → ℕ → ℕ → ℕ
sample_of samples w h x y i = sample_at samples w h (8 * x + i % 8) (8 * y + i / 8)

module _ (samples : List ℕ) (w h : ℕ) (p : PlaneOf samples w h) where
  -- how many samples there are at most
  pub samples-most : length samples ≤ 4096 * 4096
  samples-most = le_trans (le_of_eq p.long) (mul-le-mul p.w-most p.h-most)

  -- the sample that a block reads is there
  pub read-inside : (x y : ℕ) {x' y' : ℕ} → x' ≡ min x (w - 1) → y' ≡ min y (h - 1) → w * y' + x' < length samples
  read-inside x y {x'} {y'} ex ey =
      let a : 1 ≤ w = p.w-some in
      let b : 1 ≤ h = p.h-some in
      let l : w * y' + x' < w * h = index w {x = x'} (omega arith) {y = y'} {n = h} (omega arith) in
      omega (arith, p.long)

  -- row j of a block inside the plane
  module _ (x y : ℕ) (l : x < w / 8) (t : y < h / 8) {j : ℕ} (b : j < 8) where
    pub inside : w * (8 * y) + 8 * x + w * j + 8 ≤ length samples
    inside =
        let r = index w {x = 8 * x + 7} (omega arith) {y = 8 * y + j} {n = h} (omega arith) in
        omega (arith, p.long)

    pub inside-row : take 8 (drop (w * (8 * y) + 8 * x + w * j) samples) ≡ tab 8 (λ i. sample_of samples w h x y (8 * j + i))
    unfolding sample_at
    inside-row =
        let from = w * (8 * y) + 8 * x + w * j in
        by-elements 8 _ 0 (take 8 (drop from samples)) (length-take-le 8 (drop from samples) (omega (arith, length-drop from samples, inside))) (λ i a.
        let ex : min (8 * x + (8 * j + i) % 8) (w - 1) ≡ 8 * x + i = omega arith in
        let ey : min (8 * y + (8 * j + i) / 8) (h - 1) ≡ 8 * y + j = omega arith in
        get_or-take 8 (drop from samples) i 0 a ∙ get_or-drop from samples i 0 ∙ ap (λ (k : ℕ). get_or samples k 0) (omega arith) ∙ sym (λ i. at 0 w samples (ex i) (ey i)))

-- ---- the loop over the blocks

module _ (samples : List ℕ) (w h : ℕ) (quant : List ℕ) where
  abbrev coefficient_of : ℕ → ℤ
  coefficient_of i = canonical (block_of samples w h (i / 64)) quant (i % 64)

  -- the first k blocks are written
  abbrev pub Coded : ℕ → List ℤ → Type 0
  Coded k out = Filled coefficient_of (64 * (blocks w * blocks h)) (64 * k) out

  pub coded_none : (out : List ℤ) → length out ≡ 64 * (blocks w * blocks h) → Coded 0 out
  coded_none out e = none coefficient_of (64 * (blocks w * blocks h)) out e

  pub coded-more : {k : ℕ} {out left : List ℤ} → Coded k out → k < blocks w * blocks h → left ≡ paste out (64 * k) (coefficients (block_of samples w h k) quant) 64 → Coded (k + 1) left
  unfolding coefficients_at
  coded-more {k} {out} {left} s b e =
      let next : 64 * k + 64 ≡ 64 * (k + 1) = omega arith in
      rw e
      (same coefficient_of (64 * (blocks w * blocks h)) (64 * k + 64) (64 * (k + 1)) _
      (filled-paste coefficient_of (64 * (blocks w * blocks h)) (64 * k) out _ 64 s (omega arith)
      (tab-ext 64 _ _ (λ j l. λ i. canonical (block_of samples w h (sym (row_of 64 l k) i)) quant (sym (column-of 64 l k) i))))
      next)

  pub coded-all : {k : ℕ} {out : List ℤ} → Coded k out → blocks w * blocks h ≤ k → k ≤ blocks w * blocks h → out ≡ plane_coefficients samples w h quant
  unfolding plane_coefficients grid
  coded-all {k} {out} s a b = all coefficient_of (64 * (blocks w * blocks h)) (64 * k) out s (omega arith) (omega arith)

pub length-block : (samples : List ℕ) (w h x y : ℕ) → length (block_at samples w h x y) ≡ 64
unfolding block_at
length-block samples w h x y = length-grid 0 8 8 _

-- the block's coefficients in the part of 64 that was lent, and the rest kept
pub part-coded : (block quant : List ℕ) (out : List ℤ) (a : ℕ) {held : List ℤ} → held ≡ coefficients block quant → back a 64 out held ≡ paste out a (coefficients block quant) 64
unfolding coefficients_at
part-coded block quant out a e = ap (back a 64 out) e ∙ part-back out (coefficients block quant) a 64 (length-tab 64 _)

-- ---- where no test fails

pub measured-range : (n : ℕ) → measured n ≡ true → (1 ≤ n) × (n ≤ 4096)
unfolding measured
measured-range n e =
    let both = and_yes (leb 1 n) (leb n 4096) (subst T (sym e) tt) in
    (leb→le 1 n both.0, leb→le n 4096 both.1)

pub ready : (samples : List ℕ) (w h : ℕ) (quant : List ℕ) (out : List ℤ) → status (forward_tests samples w h quant out) ≡ 0 →
    PlaneOf samples w h × ((length quant ≡ 64) × (length out ≡ 64 * (blocks w * blocks h)))
unfolding forward_tests
ready samples w h quant out e =
    let all = passed-all (forward_tests samples w h quant out) tt e in
    let rw = measured-range w all.0 in
    let rh = measured-range h all.1.0 in
    let rest = all.1.1 in (
      record { w-some = rw.0; w-most = rw.1; h-some = rh.0; h-most = rh.1; long = eqb-true _ _ rest.0 },
      (eqb-true _ _ rest.1.0, eqb-true _ _ rest.1.1.0),
    )
