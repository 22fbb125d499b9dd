-- The second half of demand 3: a block's products are small, and its samples come back near.
-- Assumes nothing.
use mathlib.Core.Path.{◌≡◌, sym, ap, subst, ◌∙◌}
use mathlib.Core.List.{List}
use Prim.Native.Nat.{ℕ, ◌+◌, ◌*◌, ◌^◌, ◌≤◌, ◌<◌, zero-le}
use native.Mathlib.Omega.{arith}
use lib.ListN.{get_or}
use lib.IntN.{ℤ, pos, nat_abs, ◌-ℤ◌, ◌*ℤ◌, *ℤ_comm}
use mir.Syntax.{w16}
use Rattle.integers.proofs.Difference.{by-dif, differences}
use Rattle.integers.proofs.Bound.{small-fits}
use Rattle.lists.proofs.Tab.{get_d-tab, get_d-every}
use Rattle.quantize.specs.Quantize.{divisor_of, coefficient}
use Rattle.forward.specs.Forward.{centred, scaled_sum}
use Rattle.forward.proofs.Samples.{sum-small}
use Rattle.block.specs.Bound.{AtMost}
use Rattle.stored_blocks.specs.Dequantize.{product, dequantized}
use Rattle.orthogonality.proofs.Rounding.{coefficient-nearest}
use Rattle.orthogonality.proofs.Reconstruction.{centred-within, quantized-reconstruction}
use Rattle.accuracy.specs.Sample.{exact_number}
use Rattle.accuracy.proofs.Sample.{comes_back}
use Rattle.integers.specs.Fits16.{Fits16}
use Rattle.lists.specs.Every.{Every}
use Rattle.lists.proofs.Every.{every-place}
use Rattle.bounds.specs.Demand3.{products, decoded, weighted_basis, Near}
use Rattle.bounds.proofs.Alike.{coefficient-at}

-- D within half a divisor of S / 2^32: at most 1024 + 127
nearest-size : (D S : ℤ) (d : ℕ) → nat_abs (pos (2 ^ 32) *ℤ D -ℤ S) ≤ d * 2 ^ 31 → nat_abs S ≤ 2 ^ 42 → d ≤ 255 → nat_abs D ≤ 1151
nearest-size = by-dif _ λ a b. by-dif _ λ c d. λ k g h l. let g' = simp differences at g in let h' = simp differences at h in simp differences (omega arith)

module _ (quant a : List ℕ) (most : (i : ℕ) → get_or quant i 0 ≤ 255) (bright : (i : ℕ) → get_or a i 0 ≤ 255) where
  -- the divisor times the coefficient, as `quantized-reconstruction` has it
  product_is : (n : ℕ) → n < 64 → get_or (products a quant) n (pos 0) ≡ pos (divisor_of (get_or quant n 0)) *ℤ coefficient (scaled_sum 128 a n) (get_or quant n 0)
  unfolding products dequantized product
  product_is n h =
      get_d-tab 64 _ (pos 0) n h ∙ ap (λ (z : ℤ). z *ℤ pos (divisor_of (get_or quant n 0))) (coefficient-at 128 a quant n h) ∙ *ℤ_comm (coefficient (scaled_sum 128 a n) (get_or quant n 0)) (pos (divisor_of (get_or quant n 0)))

  sum-size : (n : ℕ) → n < 64 → nat_abs (scaled_sum 128 a n) ≤ 2 ^ 42
  sum-size n h = omega (arith, sum-small 255 128 (omega arith) a (λ i b. bright i) n h)

  pub products-small : AtMost 1151 (products a quant)
  unfolding products dequantized divisor_of
  products-small =
      get_d-every (λ (z : ℤ). nat_abs z ≤ 1151) 64 _ (pos 0) zero-le (λ n h.
      subst (λ (z : ℤ). nat_abs z ≤ 1151) (sym (product_is n h) ∙ get_d-tab 64 _ (pos 0) n h)
      (nearest-size (pos (divisor_of (get_or quant n 0)) *ℤ coefficient (scaled_sum 128 a n) (get_or quant n 0)) (scaled_sum 128 a n) (divisor_of (get_or quant n 0)) (coefficient-nearest (scaled_sum 128 a n) (get_or quant n 0)) (sum-size n h) (let l = most n in omega arith)))

  pub products-fit : Every Fits16 (products a quant)
  products-fit = every-place (pos 0) (products a quant) (λ n. small-fits w16 _ (omega (arith, products-small n)))

  pub near : Near quant a (decoded a quant)
  unfolding decoded weighted_basis exact_number centred
  near x y hx hy =
      comes_back (products a quant) products-small x y hx hy (get_or a (8 * y + x) 0) _ (bright (8 * y + x))
      (quantized-reconstruction 128 a 128 (λ x y hx hy. centred-within 128 a x y (let s = bright (8 * y + x) in omega arith)) x y hx hy quant (λ n. get_or (products a quant) n (pos 0)) product_is)
