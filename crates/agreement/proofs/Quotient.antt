-- value × reciprocal against S / (quantizer·2^32): four steps, each a number of units of 2^-40.
-- Assumes nothing.
use mathlib.Core.Path.{◌≡◌, sym, ap, ◌∙◌, subst}
use mathlib.Core.List.{List}
use Prim.Native.Nat.{ℕ, ◌+◌, ◌*◌, ◌/◌, ◌%◌, ◌^◌, ◌≤◌, ◌<◌}
use native.Mathlib.Nat.{le_trans, le_of_eq, lt_of_le_of_lt, lt_of_lt_of_le, mul-le-mul, mul-le-mul_left, mul-le-mul_right, mul-pos}
use native.Mathlib.Omega.{arith}
use lib.Dec.{lit<, lit≤}
use lib.Pow.{pow_pos}
use lib.ListN.{get_or}
use lib.IntN.{ℤ, pos, nat_abs, ◌-ℤ◌, ◌*ℤ◌, *ℤ_comm}
use lib.Ieee.{binary64, mul}
use Rattle.integers.proofs.Ring.{nat_abs-*, *ℤ-assoc}
use Rattle.integers.proofs.Distance.{times-near, distance-sym}
use Rattle.basis.specs.Basis.{basis}
use Rattle.forward.specs.Sum.{sum_to}
use Rattle.forward.specs.Forward.{centred, scaled_sum}
use Rattle.forward.proofs.Sum.{sum-ext, sums_apart}
use Rattle.forward.proofs.Scaled.{nat_abs-products}
use Rattle.guarded_quantizer.specs.Values.{fdct_value}
use Rattle.guarded_quantizer.specs.Divisors.{reciprocal}
use Rattle.guarded_quantizer.proofs.Operations.{Worth, Rounded, mul-step}
use Rattle.agreement.specs.Budget.{Apart, basis_units, passes_units, reciprocal_units, product_units, error_units}
use Rattle.agreement.specs.Exact.{one}
use Rattle.agreement.proofs.Apart.{apart-trans, apart-times}
use Rattle.agreement.proofs.Scale.{scale, scale-least}
use Rattle.agreement.proofs.Products.{product, distances, compared}
use Rattle.agreement.proofs.Values.{L, sample_of, sample-size, exact_of, exact-size, value_units, value-worth, value-apart, value-size}
use Rattle.agreement.proofs.Reciprocal.{inverse_units, inverse-value, inverse-most, inverse-apart}

-- ---- the exact transform against the sum over the basis
-- S by the samples' places
by-places : (block : List ℕ) (n : ℕ) → scaled_sum 128 block n ≡ sum_to 64 (λ i. basis n (i % 8) (i / 8) *ℤ sample_of block i)
unfolding scaled_sum centred
by-places block n = sum-ext 64 _ _ (λ i h. let e : 8 * (i / 8) + i % 8 ≡ i = omega arith in ap (λ (j : ℕ). sample_of block j *ℤ basis n (i % 8) (i / 8)) e ∙ *ℤ_comm (sample_of block i) (basis n (i % 8) (i / 8)))

module _ (block : List ℕ) (bytes : (i : ℕ) → get_or block i 0 ≤ 255) (n : ℕ) (h : n < 64) where
  abbrev S : ℤ
  S = scaled_sum 128 block n

  abbrev X : ℤ
  X = exact_of block n

  abbrev t : ℕ
  t = scale n

  basis-near : nat_abs (X -ℤ pos (2 ^ 22 * t) *ℤ S) ≤ 128 * (2 ^ 27 * t)
  unfolding exact_of distances
  basis-near =
      let c : ℤ = pos (2 ^ 22 * t) in
      let s : ℕ → ℤ = sample_of block in
      let b : ℕ → ℤ = λ i. basis n (i % 8) (i / 8) in
      let terms : c *ℤ S -ℤ X ≡ sum_to 64 (λ i. s i *ℤ (c *ℤ b i -ℤ product n i)) =
      ap (λ (z : ℤ). c *ℤ z -ℤ X) (by-places block n) ∙ sums_apart 64 c b (product n) s ∙ sum-ext 64 _ _ (λ i l. *ℤ_comm (c *ℤ b i -ℤ product n i) (s i)) in
      le_trans (le_of_eq (distance-sym X (c *ℤ S) ∙ ap nat_abs terms)) (le_trans (nat_abs-products 64 128 s (λ i. c *ℤ b i -ℤ product n i) (λ i l. sample-size block bytes i)) (mul-le-mul_left 128 (compared n h).within))

  module _ (q : ℕ) (low : 1 ≤ q) (high : q ≤ 255) where
    abbrev C : ℕ
    C = inverse_units n q h low high

    abbrev w : ℤ
    w = value_units block bytes n h

    -- half a unit of 2^-32 at each of 64 places times 128: 2^-20
    basis-apart : Apart (pos one *ℤ X) (q * t * (one * one)) S (q * 2 ^ 32) basis_units
    basis-apart = record { within = le_trans (mul-le-mul_right (2 ^ 40) (le_trans (le_of_eq (ap nat_abs (turn q t X S))) (times-near (q * 2 ^ 86) X (pos (2 ^ 22 * t) *ℤ S) basis-near))) (room q t (2 ^ 80) low) }
      where
        turn : (q t : ℕ) (X S : ℤ) → (pos one *ℤ X) *ℤ pos (q * 2 ^ 32) -ℤ S *ℤ pos (q * t * (one * one)) ≡ pos (q * 2 ^ 86) *ℤ X -ℤ pos (q * 2 ^ 86) *ℤ (pos (2 ^ 22 * t) *ℤ S)
        turn q t X S =
            let left : q * 2 ^ 32 * one ≡ q * 2 ^ 86 = omega arith in
            let right : q * t * (one * one) ≡ q * 2 ^ 86 * (2 ^ 22 * t) = omega arith in
            λ i. (*ℤ_comm (pos one *ℤ X) (pos (q * 2 ^ 32)) ∙ sym (*ℤ-assoc (pos (q * 2 ^ 32)) (pos one) X) ∙ ap (λ (k : ℕ). pos k *ℤ X) left) i -ℤ (ap (λ (k : ℕ). S *ℤ pos k) right ∙ *ℤ_comm S (pos (q * 2 ^ 86 * (2 ^ 22 * t))) ∙ *ℤ-assoc (pos (q * 2 ^ 86)) (pos (2 ^ 22 * t)) S) i

        room : (q t g : ℕ) → 1 ≤ q → q * (2 ^ 6 * g) * (128 * (2 ^ 27 * t)) * 2 ^ 40 ≤ 2 ^ 20 * (q * t * (2 ^ 28 * g) * (q * 2 ^ 32))
        room q t g l = let k = mul-le-mul_left (q * t * g) l in omega arith

    -- the product is below 2^20
    rounding : Rounded (mul binary64 (fdct_value block n) (reciprocal q (n % 8) (n / 8))) (pos C *ℤ w) L 1041
    rounding =
        mul-step 1041 (lit≤ tt) (reciprocal q (n % 8) (n / 8)) C L (pow_pos 1074) (inverse-value n q h low high) (value-worth block bytes n h)
        (lt_of_le_of_lt (le_trans (le_of_eq (nat_abs-* (pos C) w)) (mul-le-mul (inverse-most n q h low high) (value-size block bytes n h))) (lit< {m = 3 * L * (13057 * L)} {n = 2 ^ 53 * (L * 2 ^ 1041)} tt))

    pub scaled_units : ℤ
    scaled_units = rounding.units

    pub scaled-worth : Worth (mul binary64 (fdct_value block n) (reciprocal q (n % 8) (n / 8))) scaled_units
    unfolding scaled_units
    scaled-worth = rounding.worth

    rounding-apart : Apart scaled_units L (w *ℤ pos C) (L * L) product_units
    unfolding scaled_units
    rounding-apart = record { within = le_trans (mul-le-mul_right (2 ^ 40) (le_trans (le_of_eq (ap nat_abs (turn L C rounding.units w))) (times-near L (pos L *ℤ rounding.units) (pos C *ℤ w) rounding.near))) (lit≤ {m = L * (L * 2 ^ 1041) * 2 ^ 40} {n = 128 * (L * (L * L))} tt) }
      where
        turn : (N C : ℕ) (z w : ℤ) → z *ℤ pos (N * N) -ℤ (w *ℤ pos C) *ℤ pos N ≡ pos N *ℤ (pos N *ℤ z) -ℤ pos N *ℤ (pos C *ℤ w)
        turn N C z w = λ i. (*ℤ_comm z (pos N *ℤ pos N) ∙ *ℤ-assoc (pos N) (pos N) z) i -ℤ (*ℤ_comm (w *ℤ pos C) (pos N) ∙ ap (λ (k : ℤ). pos N *ℤ k) (*ℤ_comm w (pos C))) i

    -- value × reciprocal against S / (q·2^32)
    pub scaled-apart : Apart scaled_units L S (q * 2 ^ 32) error_units
    scaled-apart =
        let value : Apart (w *ℤ pos C) (L * L) (X *ℤ pos C) (one * one * L) passes_units = apart-times (pos C) L 3 (inverse-most n q h low high) (value-apart block bytes n h) in
        let inverse : Apart (pos C *ℤ X) (L * (one * one)) (pos one *ℤ X) (q * t * (one * one)) reciprocal_units = apart-times X (one * one) 13056 (exact-size block bytes n h) (inverse-apart n q h low high) in
        let some : 0 < q * t * (one * one) = mul-pos (mul-pos low (lt_of_lt_of_le (lit< {m = 0} {n = 9 * 2 ^ 50} tt) (scale-least n h))) (lit< {m = 0} {n = one * one} tt) in
        apart-trans some
        (apart-trans (lit< {m = 0} {n = L * (one * one)} tt)
        (apart-trans (lit< {m = 0} {n = L * L} tt) rounding-apart (subst (λ (z : ℤ). Apart (w *ℤ pos C) (L * L) z (one * one * L) passes_units) (*ℤ_comm X (pos C)) value))
        inverse)
        basis-apart
