-- Document 02, card 3: the screen's rule for a coefficient c at the frequency n, under the quantizer q.
use Rattle.std.specs.Prelude.{◌≡◌, Bool, cond, List, ℕ, ◌/◌, ◌%◌, ◌^◌, ℤ, pos, neg_ℤ, nat_abs, ◌≤ℤ◌}
use Rattle.std.specs.Int.Signed.{non_neg}
use Rattle.integers.specs.Equal.{eq_z}
use Rattle.integers.specs.Range.{Some, some_from}
use Rattle.lists.specs.Tab.{tab}
use Rattle.basis.specs.Basis.{basis}
use Rattle.quantize.specs.Quantize.{coefficient}
use Rattle.forward.specs.Forward.{scaled_sum}
use Rattle.forward.specs.Canonical.{Bytes}

-- S of some 8-bit block
pub record SumOf (n : ℕ) (S : ℤ) : Type 0 where
  pub block : List ℕ
  pub bytes : Bytes block
  pub is : scaled_sum 128 block n ≡ S

-- "the least and greatest S over all 8-bit blocks"
abbrev pub Least : ℕ → ℤ → Type 0
Least n l = SumOf n l × ((S : ℤ) → SumOf n S → l ≤ℤ S)

abbrev pub Greatest : ℕ → ℤ → Type 0
Greatest n h = SumOf n h × ((S : ℤ) → SumOf n S → S ≤ℤ h)

-- the block that is s where the basis of n is not negative, and t where it is
unfoldable pub by_sign : ℕ → ℕ → ℕ → List ℕ
by_sign n s t = tab 64 (λ i. cond (non_neg (basis n (i % 8) (i / 8))) s t)

-- "for each frequency, let low and high be" these: `low-least` and `high-greatest` of proofs/Extent.antt say that they are
unfoldable pub low : ℕ → ℤ
low n = scaled_sum 128 (by_sign n 0 255) n

unfoldable pub high : ℕ → ℤ
high n = scaled_sum 128 (by_sign n 255 0) n

-- "A coefficient passes when some whole number from low to high rounds to it under its divisor"
abbrev pub Passes : ℕ → ℕ → ℤ → Type 0
Passes n q c = Some (low n) (high n) (λ S. coefficient S q ≡ c)

-- the test: `passes-yes` and `passes-all` of proofs/Limits.antt say that its yes and `Passes` are one
unfoldable pub passes : ℕ → ℕ → ℤ → Bool
passes n q c = some_from (low n) (high n) (λ S. eq_z (coefficient S q) c)

-- what the code compares with: low and high in units of 2^31, rounded towards 0
unfoldable pub low_limits : List ℤ
low_limits = tab 64 (λ n. neg_ℤ (pos (nat_abs (low n) / 2 ^ 31)))

unfoldable pub high_limits : List ℤ
high_limits = tab 64 (λ n. pos (nat_abs (high n) / 2 ^ 31))
