-- The 8-point pass of numbers that it does not wrap: the sums by the gains, scaled down to the nearest; and the gains' weight.
-- Assumes nothing.
use mathlib.Core.Path.{◌≡◌, refl}
use mathlib.Core.List.{[]}
use Prim.Native.Nat.{ℕ, suc, ◌-◌, ◌*◌, ◌^◌, ◌≤◌, ◌<◌}
use native.Mathlib.Nat.{le_trans, mul_comm, mul-le-mul_left, pow-suc}
use native.Mathlib.Omega.{arith}
use lib.Dec.{T, eqb, eqb→eq, leb, leb→le}
use lib.ListN.{length, get_or}
use lib.Pow.{pow_pos}
use lib.IntN.{ℤ, pos, nat_abs, ◌-ℤ◌, ◌*ℤ◌}
use mir.Syntax.{w32}
use Rattle.integers.proofs.Floor.{floor-nearest}
use Rattle.lists.specs.Tab.{tab}
use Rattle.lists.specs.Below.{below}
use Rattle.lists.proofs.Below.{below_at}
use Rattle.gains.specs.Gains.{mirror, mirrored, upper, gains}
use Rattle.passes.specs.Passes.{pass}
use Rattle.block.proofs.Exact.{light, pass-exact, exact-at, tab-at-most}
use Rattle.forward.specs.Sum.{sum_to, total}
use Rattle.forward.proofs.Sum.{gain_of, row-sum}
use Rattle.forward.proofs.Scaled.{nat_abs-products}

abbrev pub gain : ℕ → ℕ → ℤ
gain = gain_of gains

-- the largest sum of the absolute values of one row's gains
pub gains-weight : (j : ℕ) → j < 8 → total 8 (λ k. nat_abs (gain j k)) ≤ 61214
unfolding gain_of below total mirror mirrored upper gains
gains-weight j h = leb→le _ _ (below_at 8 (λ i. leb (total 8 (λ k. nat_abs (gain i k))) 61214) tt j h)

row-length : (j : ℕ) → j < 8 → length (get_or gains j []) ≡ 8
unfolding below mirror mirrored upper gains
row-length j h = eqb→eq _ 8 (below_at 8 (λ i. eqb (length (get_or gains i [])) 8) tt j h)

rows : length gains ≡ 8
unfolding mirror mirrored upper gains
rows = refl

module _ (f : ℕ → ℤ) where
  abbrev pub sum_by : ℕ → ℤ
  sum_by j = sum_to 8 (λ k. f k *ℤ gain j k)

  -- numbers of at most B in absolute value
  module _ (B : ℕ) (small : (k : ℕ) → k < 8 → nat_abs (f k) ≤ B) (j : ℕ) (h : j < 8) where
    pub sum-size : nat_abs (sum_by j) ≤ B * 61214
    sum-size = le_trans (nat_abs-products 8 B f (gain j) small) (mul-le-mul_left B (gains-weight j h))

    -- half of a unit at most
    pub pass-nearest : (s : ℕ) → T (light (2 ^ 31) B (suc s) gains) → nat_abs (pos (2 ^ suc s) *ℤ get_or (pass w32 gains (suc s) (tab 8 f)) j (pos 0) -ℤ sum_by j) ≤ 2 ^ s
    pass-nearest s t =
        let before : suc s - 1 ≡ s = omega arith in
        rw (pass-exact (tab 8 f) B (tab-at-most B 8 f small) (suc s) w32 gains t, exact-at gains (suc s) (tab 8 f) j (omega (arith, rows)), row-sum gains j 8 f (row-length j h), before, pow-suc 2 s, mul_comm (2 ^ s) 2)
        (floor-nearest (sum_by j) (2 ^ s) (pow_pos s))
