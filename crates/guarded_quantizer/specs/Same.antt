-- Document 02, card 9: sameness of two records.
use Rattle.std.specs.Prelude.{◌≡◌, ℕ, ◌<◌, ◌≤◌, Bool, cond, ◌&&◌, ◌||◌, List, ℤ, pos, ◌==◌, nat_eq, slice_index, slice_index_or}
use Rattle.integers.specs.Equal.{eq_z}
use Rattle.lists.specs.Tab.{tab}
use Rattle.lists.specs.Below.{below}
use Rattle.zigzag.specs.Zigzag.{places}
use Rattle.guarded_quantizer.specs.declared.QuantizedBlock.{QuantizedBlock}

-- "AC places 1 to 63"
unfoldable pub same_ac : List ℤ → List ℤ → Bool
same_ac a b = below 64 (λ z. (z == 0) || eq_z (slice_index_or a z (pos 0)) (slice_index_or b z (pos 0)))

-- "all divisors"
unfoldable pub same_divisors : List ℕ → List ℕ → Bool
same_divisors a b = below 64 (λ n. nat_eq (slice_index a n) (slice_index b n))

-- the rule before: "their numbers agreed"
unfoldable pub same_numbers : QuantizedBlock → QuantizedBlock → Bool
same_numbers a b = eq_z a.dc b.dc && same_ac a.ac_coefficients b.ac_coefficients

-- "Two records are the same exactly when DC, AC places 1 to 63 and all divisors agree, whatever else a handed-in record holds": the bitmap
-- and AC place 0
unfoldable pub same_records : QuantizedBlock → QuantizedBlock → Bool
same_records a b = same_numbers a b && same_divisors a.divisors b.divisors

-- what a yes says (`same-yes` and `same-all` of proofs/Same.antt: both ways)
pub record Same (a b : QuantizedBlock) : Type 0 where
  pub dc : a.dc ≡ b.dc
  pub ac : (z : ℕ) → 1 ≤ z → z < 64 → slice_index_or a.ac_coefficients z (pos 0) ≡ slice_index_or b.ac_coefficients z (pos 0)
  pub divisors : (n : ℕ) → n < 64 → slice_index a.divisors n ≡ slice_index b.divisors n

-- the 64 coefficients of a record as a bare block, in natural order
unfoldable pub bare_block : QuantizedBlock → List ℤ
bare_block r = tab 64 (λ n. cond (n == 0) r.dc (slice_index_or r.ac_coefficients (slice_index places n) (pos 0)))
