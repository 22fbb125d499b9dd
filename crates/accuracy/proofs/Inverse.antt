-- The 8-bit 8×8 inverse of coefficients of at most 1151 in absolute value: nothing wraps, the shortcuts are the full passes, each pass rounds to
-- the nearest, and so the numbers before the clamp are near the exact ones. (|S(n)| ≤ 2^42, so a coefficient times its divisor is at
-- most 1024 + 127.5.)
-- Assumes nothing.
use mathlib.Core.Path.{◌≡◌, sym, ap, ◌∙◌}
use mathlib.Core.List.{List, []}
use Prim.Native.Nat.{ℕ, ◌+◌, ◌*◌, ◌/◌, ◌%◌, ◌^◌, ◌≤◌, ◌<◌}
use native.Mathlib.Omega.{arith}
use lib.Dec.{lit<}
use lib.ListN.{get_or}
use lib.IntN.{ℤ, pos, nat_abs, ◌+ℤ◌, ◌-ℤ◌, ◌*ℤ◌}
use mir.Syntax.{w32}
use Rattle.integers.specs.Linear.{weight}
use Rattle.integers.proofs.Difference.{by-dif, differences}
use Rattle.integers.proofs.Ring.{nat_abs-+}
use Rattle.integers.proofs.Wrap.{wrap-id}
use Rattle.integers.proofs.Bound.{small-fits}
use Rattle.lists.specs.Tab.{tab}
use Rattle.lists.proofs.Tab.{length-tab, get_d-tab}
use Rattle.gains.specs.Gains.{mirror, mirrored, upper, gains}
use Rattle.clamping.specs.Clamping.{clamp_to, sample_u8}
use Rattle.passes.specs.Passes.{eight, pass, column_pass}
use Rattle.block.specs.Bound.{AtMost}
use Rattle.block.specs.Block.{column_of, columns, row_of, row_at, row_samples, samples, block}
use Rattle.block.proofs.Exact.{light}
use Rattle.block.proofs.Column.{column-eight}
use Rattle.block.proofs.Row.{row-eight}
use Rattle.basis.specs.Basis.{basis}
use Rattle.accuracy.specs.Sample.{row_number, exact_number}
use Rattle.accuracy.proofs.Passes.{two-passes}
use Rattle.accuracy.proofs.Gains.{gain, gains-weight, sum_by, sum-size, pass-nearest}
use Rattle.accuracy.proofs.Distance.{distance, products-near}

-- how large a number is whose multiple is near a sum
column-size : (c t : ℤ) → nat_abs (pos (2 ^ 11) *ℤ c -ℤ t) ≤ 2 ^ 10 → nat_abs t ≤ 1151 * 61214 → nat_abs c ≤ 34404
column-size = by-dif _ λ a b. by-dif _ λ c d. λ h l. let h' = simp differences at h in let l' = simp differences at l in simp differences (omega arith)

row-size : (v t : ℤ) → nat_abs (pos (2 ^ 18) *ℤ v -ℤ t) ≤ 2 ^ 17 → nat_abs t ≤ 34404 * 61214 → nat_abs v ≤ 2 ^ 13
row-size = by-dif _ λ a b. by-dif _ λ c d. λ h l. let h' = simp differences at h in let l' = simp differences at l in simp differences (omega arith)

module _ (D : List ℤ) (small : AtMost 1151 D) where
  -- column u of the coefficients, and what its pass gives at row y
  abbrev column : ℕ → ℕ → ℤ
  column u k = get_or D (8 * k + u) (pos 0)

  abbrev work : ℕ → ℕ → ℤ
  work y u = get_or (get_or (columns (column_pass eight) D) u []) y (pos 0)

  work-pass : (y u : ℕ) → u < 8 → work y u ≡ get_or (pass w32 gains 11 (tab 8 (column u))) y (pos 0)
  unfolding columns column_of
  work-pass y u h =
      ap (λ (p : List ℤ). get_or p y (pos 0))
      (get_d-tab 8 (λ u. column_pass eight (column_of D u)) [] u h ∙ sym (column-eight (tab 8 (column u)) (length-tab 8 (column u)) (rw (get_d-tab 8 (column u) (pos 0) 0 (lit< tt)) (omega (arith, small (8 * 0 + u))))))

  module _ (x y : ℕ) (hx : x < 8) (hy : y < 8) where
    column-near : (u : ℕ) → u < 8 → nat_abs (pos (2 ^ 11) *ℤ work y u -ℤ sum_by (column u) y) ≤ 2 ^ 10
    unfolding light weight mirror mirrored upper gains
    column-near u h = rw (work-pass y u h) (pass-nearest (column u) 1151 (λ k b. small (8 * k + u)) y hy 10 tt)

    work-size : (u : ℕ) → u < 8 → nat_abs (work y u) ≤ 34404
    work-size u h = column-size (work y u) (sum_by (column u) y) (column-near u h) (sum-size (column u) 1151 (λ k b. small (8 * k + u)) y hy)

    number-pass : row_number D x y ≡ get_or (pass w32 gains 18 (tab 8 (work y))) x (pos 0)
    unfolding row_number row_at
    number-pass =
        ap (λ (p : List ℤ). get_or p x (pos 0))
        (sym (row-eight (tab 8 (work y)) (length-tab 8 (work y)) (rw (get_d-tab 8 (work y) (pos 0) 0 (lit< tt)) (omega (arith, work-size 0 (lit< tt))))))

    row_near : nat_abs (pos (2 ^ 18) *ℤ row_number D x y -ℤ sum_by (work y) x) ≤ 2 ^ 17
    unfolding light weight mirror mirrored upper gains
    row_near = rw number-pass (pass-nearest (work y) 34404 work-size x hx 17 tt)

    number_size : nat_abs (row_number D x y) ≤ 2 ^ 13
    number_size = row-size (row_number D x y) (sum_by (work y) x) row_near (sum-size (work y) 34404 work-size x hx)

    -- 8·(2^28 + 61214·2^10) for the rounding of the passes, 1151·2818546 for the gains
    pub number-near : nat_abs (pos (2 ^ 32) *ℤ row_number D x y -ℤ exact_number D x y) ≤ 5893095182
    unfolding exact_number distance
    number-near =
        two-passes (gain y) (gain x) (λ n. get_or D n (pos 0)) (work y) (λ n. basis n x y) (row_number D x y) 61214 2818546 1151
        column-near row_near (gains-weight x hx) (products-near x y hx hy) (λ n h. small n)

    -- the sample: 128 is added without wrapping
    pub sample : get_or (block eight D) (8 * y + x) 0 ≡ clamp_to 255 (row_number D x y +ℤ pos 128)
    unfolding block samples row_samples row_number sample_u8 eight
    sample =
        let p : ℕ = 8 * y + x in
        let column : p % 8 ≡ x = omega arith in
        let row : p / 8 ≡ y = omega arith in
        get_d-tab 64 (λ i. sample_u8 (row_number D (i % 8) (i / 8))) 0 p (omega arith)
        ∙ (λ i. sample_u8 (row_number D (column i) (row i)))
        ∙ ap (clamp_to 255) (wrap-id w32 _ (small-fits w32 _ (omega (arith, nat_abs-+ (row_number D x y) (pos 128), number_size))))
