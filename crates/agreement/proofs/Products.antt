-- "the basis is compared with the cosines enclosed by integer squares" (document 02, card 10): the products of the two passes' gains against
-- the basis times the scale, computed once; and how large the gains and the products are together.
-- Assumes nothing.
use mathlib.Core.Bool.{Bool}
use mathlib.Core.List.{List}
use Prim.Native.Nat.{ℕ, ◌*◌, ◌/◌, ◌%◌, ◌^◌, ◌≤◌, ◌<◌}
use lib.Dec.{T, leb, leb→le}
use lib.IntN.{ℤ, pos, nat_abs, ◌-ℤ◌, ◌*ℤ◌}
use lib.Ieee.{round, mul}
use Rattle.lists.specs.Below.{below}
use Rattle.lists.proofs.Below.{below_at}
use Rattle.basis.specs.Cosine.{Cosines, cosines}
use Rattle.basis.specs.Basis.{reduced, cosine_of, negated, signed, factor, entry, reflected, mirrors, basis}
use Rattle.basis.proofs.Rule.{cosines-are}
use Rattle.forward.specs.Sum.{total}
use Rattle.forward.proofs.Sum.{gain_of}
use Rattle.guarded_quantizer.specs.Literals.{decimal}
use Rattle.guarded_quantizer.specs.Divisors.{aan_scale}
use Rattle.agreement.specs.Exact.{one, matrix}
use Rattle.agreement.proofs.Scale.{in_units, scale}

-- at frequency n = 8v + u and place i = 8y + x, in units of 2^-108
unfoldable pub product_of : List (List ℤ) → ℕ → ℕ → ℤ
product_of rows n i = gain_of rows (n % 8) (i % 8) *ℤ gain_of rows (n / 8) (i / 8)

-- the distances of frequency n, over the matrix and the scale t as arguments, so that they are computed once
unfoldable pub distances : List (List ℤ) → ℕ → ℕ → ℕ
distances rows t n = total 64 (λ i. nat_abs (pos (2 ^ 22 * t) *ℤ basis n (i % 8) (i / 8) -ℤ product_of rows n i))

near-test : List (List ℤ) → ℕ → Bool
near-test rows n = let t : ℕ = scale n in leb (distances rows t n) (2 ^ 27 * t)

near : T (below 64 (near-test matrix))
unfolding below total matrix gain_of product_of cosines reduced cosine_of negated signed factor entry reflected mirrors basis distances near-test scale in_units round mul decimal aan_scale
near = tt

products-test : List (List ℤ) → ℕ → Bool
products-test rows n = leb (total 64 (λ i. nat_abs (product_of rows n i))) (102 * (one * one))

products : T (below 64 (products-test matrix))
unfolding below total matrix gain_of product_of products-test
products = tt

gains-test : List (List ℤ) → ℕ → Bool
gains-test rows u = leb (total 8 (λ x. nat_abs (gain_of rows u x))) (11 * one)

gains : T (below 8 (gains-test matrix))
unfolding below total matrix gain_of gains-test
gains = tt

abbrev pub gain : ℕ → ℕ → ℤ
gain = gain_of matrix

abbrev pub product : ℕ → ℕ → ℤ
product = product_of matrix

pub gains-weight : (u : ℕ) → u < 8 → total 8 (λ x. nat_abs (gain u x)) ≤ 11 * one
unfolding gains-test
gains-weight u h = leb→le _ _ (below_at 8 (gains-test matrix) gains u h)

pub products-weight : (n : ℕ) → n < 64 → total 64 (λ i. nat_abs (product n i)) ≤ 102 * (one * one)
unfolding products-test
products-weight n h = leb→le _ _ (below_at 64 (products-test matrix) products n h)

-- the cosines that the basis is made of are enclosed by squares, and the products are near the basis: half a unit of 2^-32 at each place,
-- together
pub record Compared (n : ℕ) : Type 0 where
  pub enclosed : Cosines cosines
  pub within : distances matrix (scale n) n ≤ 2 ^ 27 * scale n

pub compared : (n : ℕ) → n < 64 → Compared n
unfolding near-test
compared n h = record { enclosed = cosines-are; within = leb→le _ _ (below_at 64 (near-test matrix) near n h) }
