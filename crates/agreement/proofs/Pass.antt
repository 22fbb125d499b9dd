-- `fdct_8` at any eight floats that are small enough: each output is within 16·2^1041 units of its row of the exact matrix. (The unit is 2^-1074, so
-- 2^1041 of them are 2^-33: each float is below 2^20.)
-- Assumes nothing.
use mathlib.Core.Path.{refl}
use mathlib.Core.Bool.{false}
use mathlib.Core.List.{List, []}
use Prim.Native.Nat.{ℕ, ◌*◌, ◌^◌, ◌≤◌, ◌<◌}
use native.Mathlib.Nat.{le_trans, mul-le-mul_right}
use lib.Dec.{lit<, lit≤}
use lib.ListN.{get_or}
use lib.IntN.{ℤ, pos}
use lib.Ieee.{Float, nan, round}
use lib.Ieee.Exact.{HasValue}
use Rattle.integers.specs.Linear.{weight}
use Rattle.lists.proofs.Below.{each-8}
use Rattle.guarded_quantizer.specs.Literals.{decimal, frac1_sqrt2}
use Rattle.guarded_quantizer.specs.Transform.{fdct8}
use Rattle.guarded_quantizer.proofs.Operations.{Worth}
use Rattle.agreement.specs.Exact.{one, rotation_factor, cross_factor, left_factor, right_factor, matrix}
use Rattle.agreement.proofs.Form.{Form, Inputs, enter, plus, minus, times, lift}

-- ---- the factors, exactly
rotation-is : HasValue frac1_sqrt2 false rotation_factor one
unfolding round decimal frac1_sqrt2
rotation-is = (refl, refl)

cross-is : HasValue (decimal 3826834323650898 16) false cross_factor one
unfolding round decimal
cross-is = (refl, refl)

left_is : HasValue (decimal 541196100146197 15) false left_factor one
unfolding round decimal
left_is = (refl, refl)

right_is : HasValue (decimal 13065629648763766 16) false right_factor one
unfolding round decimal
right_is = (refl, refl)

-- ---- the pass
widen : {z u : List ℤ} {l : ℕ} {x : Float} → l ≤ 16 * one → Form z 1041 one u l x → Form z 1041 one u (16 * one) x
widen h p = record { units = p.units; worth = p.worth; near = le_trans p.near (mul-le-mul_right (2 ^ 1041) h) }

-- z: the eight floats in units of 2^-1074
module _ (xs : List Float) (z : List ℤ) (I : Inputs z 1041) (are : (k : ℕ) → k < 8 → Worth (get_or xs k nan) (get_or z k (pos 0))) where
  pub pass : (i : ℕ) → i < 8 → Form z 1041 one (get_or matrix i []) (16 * one) (get_or (fdct8 xs) i nan)
  unfolding fdct8 matrix weight
  pass =
      let x0 = enter I 0 (are 0 (lit< tt)) in
      let x1 = enter I 1 (are 1 (lit< tt)) in
      let x2 = enter I 2 (are 2 (lit< tt)) in
      let x3 = enter I 3 (are 3 (lit< tt)) in
      let x4 = enter I 4 (are 4 (lit< tt)) in
      let x5 = enter I 5 (are 5 (lit< tt)) in
      let x6 = enter I 6 (are 6 (lit< tt)) in
      let x7 = enter I 7 (are 7 (lit< tt)) in
      let sum0 = plus I x0 x7 tt in
      let sum1 = plus I x1 x6 tt in
      let sum2 = plus I x2 x5 tt in
      let sum3 = plus I x3 x4 tt in
      let diff0 = minus I x0 x7 tt in
      let diff1 = minus I x1 x6 tt in
      let diff2 = minus I x2 x5 tt in
      let diff3 = minus I x3 x4 tt in
      let outer = plus I sum0 sum3 tt in
      let inner = plus I sum1 sum2 tt in
      let even = minus I sum0 sum3 tt in
      let even_sum1 = plus I even sum1 tt in
      let even_sum2 = minus I even_sum1 sum2 tt in
      let rotation = times I frac1_sqrt2 rotation_factor one rotation-is even_sum2 tt in
      let left = plus I diff3 diff2 tt in
      let right = plus I diff1 diff0 tt in
      let left_right = minus I left right tt in
      let cross = times I (decimal 3826834323650898 16) cross_factor one cross-is left_right tt in
      let left_part = times I (decimal 541196100146197 15) left_factor one left_is left tt in
      let low = plus I left_part cross tt in
      let right_part = times I (decimal 13065629648763766 16) right_factor one right_is right tt in
      let high = plus I right_part cross tt in
      let diffs = plus I diff2 diff1 tt in
      let middle = times I frac1_sqrt2 rotation_factor one rotation-is diffs tt in
      let plus1 = plus I (lift I one diff0) middle tt in
      let minus1 = minus I (lift I one diff0) middle tt in
      let r0 = plus I outer inner tt in
      let r1 = plus I plus1 high tt in
      let r2 = plus I (lift I one even) rotation tt in
      let r3 = minus I minus1 low tt in
      let r4 = minus I outer inner tt in
      let r5 = plus I minus1 low tt in
      let r6 = minus I (lift I one even) rotation tt in
      let r7 = minus I plus1 high tt in
      each-8 (λ (i : ℕ). Form z 1041 one (get_or matrix i []) (16 * one) (get_or (fdct8 xs) i nan))
      (widen (lit≤ tt) (lift I one r0))
      (widen (lit≤ tt) r1)
      (widen (lit≤ tt) r2)
      (widen (lit≤ tt) r3)
      (widen (lit≤ tt) (lift I one r4))
      (widen (lit≤ tt) r5)
      (widen (lit≤ tt) r6)
      (widen (lit≤ tt) r7)
