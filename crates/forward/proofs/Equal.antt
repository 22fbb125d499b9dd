-- The sums of a block of equal samples are multiples of the basis' own, which the checker computes once.
-- Assumes nothing.
use mathlib.Core.Path.{◌≡◌, refl, sym, ap, ◌∙◌}
use mathlib.Core.List.{List, ◌∷◌}
use Prim.Native.Nat.{ℕ, zero, suc, ◌+◌, ◌*◌, ◌/◌, ◌%◌, ◌^◌, ◌<◌}
use native.Mathlib.Omega.{arith}
use lib.ListN.{get_or, replicate, get_or-replicate}
use lib.IntN.{ℤ, pos, ◌-ℤ◌, ◌*ℤ◌, *ℤ-zero}
use Rattle.lists.specs.Tab.{tab}
use Rattle.lists.proofs.Tab.{get_d-tab}
use Rattle.basis.specs.Cosine.{cosines}
use Rattle.basis.specs.Basis.{reduced, cosine_of, negated, signed, factor, entry, reflected, mirrors, basis}
use Rattle.forward.specs.Sum.{sum_to}
use Rattle.forward.specs.Forward.{centred, scaled_sum}
use Rattle.forward.proofs.Sum.{sum-ext, sum-scale}

basis_sum : ℕ → ℤ
basis_sum n = sum_to 64 (λ i. basis n (i % 8) (i / 8))

-- beside that of n = 0 they are zero
abbrev pub basis_sums : List ℤ
basis_sums = pos (2 ^ 35) ∷ replicate 63 (pos 0)

basis-sums : basis_sums ≡ tab 64 basis_sum
unfolding tab basis_sum sum_to cosines reduced cosine_of negated signed factor entry reflected mirrors basis
basis-sums = refl

module _ (centre s n : ℕ) (h : n < 64) (block : List ℕ) (equal : (i : ℕ) → i < 64 → get_or block i 0 ≡ s) where
  abbrev less : ℤ
  less = pos s -ℤ pos centre

  pub equal-sum : scaled_sum centre block n ≡ less *ℤ get_or basis_sums n (pos 0)
  unfolding scaled_sum centred basis_sum
  equal-sum =
      sum-ext 64 _ _ (λ i b. ap (λ (k : ℕ). (pos k -ℤ pos centre) *ℤ basis n (i % 8) (i / 8)) (equal (8 * (i / 8) + i % 8) (omega arith)))
      ∙ sym (sum-scale less 64 (λ i. basis n (i % 8) (i / 8)))
      ∙ ap (λ (z : ℤ). less *ℤ z) (sym (ap (λ (l : List ℤ). get_or l n (pos 0)) basis-sums ∙ get_d-tab 64 basis_sum (pos 0) n h))

  pub equal-ac : 0 < n → scaled_sum centre block n ≡ pos 0
  equal-ac p = equal-sum ∙ ap (λ (z : ℤ). less *ℤ z) (none n h p) ∙ *ℤ-zero less
    where
      none : (n : ℕ) → n < 64 → 0 < n → get_or basis_sums n (pos 0) ≡ pos 0
      none zero h p = absurd (omega arith)
      none (suc n) h p = get_or-replicate 63 n (pos 0) (pos 0) (omega arith)
