-- Document 02, card 10: for every block of 64 samples 0..255 and every table of 64 quantizers 1..255, with the divisors made from that table,
-- the guarded quantizer's coefficients are the canonical ones.
-- Assumes nothing.
use mathlib.Core.Path.{◌≡◌, refl, sym, ap, ◌∙◌, subst}
use mathlib.Core.Bool.{Bool, true, false, cond}
use mathlib.Core.List.{List}
use Prim.Native.Nat.{ℕ, ◌*◌, ◌/◌, ◌%◌, ◌^◌, ◌≤◌, ◌<◌, zero-le}
use native.Mathlib.Nat.{mul-pos, div-add-mod'}
use native.Mathlib.Omega.{arith}
use borrow.Author.Tests.{eqb-true, eqb-false}
use lib.Dec.{eqb, leb, lit<}
use lib.Pow.{pow_pos}
use lib.ListN.{get_or}
use lib.IntN.{ℤ, pos, nat_abs}
use lib.Ieee.{nan, binary64, mul}
use Rattle.lists.specs.Tab.{tab}
use Rattle.lists.proofs.Tab.{get_d-tab, get_d-every, tab-ext}
use Rattle.quantize.specs.Quantize.{divisor_of, rounded, with_sign, coefficient}
use Rattle.quantize.proofs.Remainder.{quotient-small, one_more}
use Rattle.quantize.proofs.Zero.{below_half}
use Rattle.forward.specs.Forward.{scaled_sum, centred_block}
use Rattle.forward.specs.Canonical.{Bytes, canonical, coefficients, canonical_at, coefficients_at}
use Rattle.forward.proofs.Folding.{sum-centred}
use Rattle.forward.proofs.Scaled.{scaled-size}
use Rattle.guarded_quantizer.specs.Binary64.{near_half, rounded_to_i16}
use Rattle.guarded_quantizer.specs.Values.{fdct_value}
use Rattle.guarded_quantizer.specs.Divisors.{reciprocal, reciprocals}
use Rattle.guarded_quantizer.specs.Guarded.{scaled_value, guarded}
use Rattle.guarded_quantizer.specs.Constant.{constant, only_dc}
use Rattle.guarded_quantizer.specs.Answer.{coefficients_of}
use Rattle.guarded_quantizer.proofs.DcSum.{constant-ac}
use Rattle.agreement.specs.Agreement.{Quantizers, Agree}
use Rattle.agreement.specs.Budget.{guard_units, error_units}
use Rattle.agreement.proofs.Values.{sample_of, sample-size}
use Rattle.agreement.proofs.Guard.{guard}
use Rattle.agreement.proofs.Quotient.{scaled-worth, scaled-apart}

-- "The 2^-19 guard is the only slack available", and it is enough
pub within-guard : error_units < guard_units
within-guard = lit< tt

-- ---- one frequency of a block that is not of equal samples
module _ (block quant : List ℕ) (bytes : (i : ℕ) → get_or block i 0 ≤ 255) (n : ℕ) (h : n < 64) (low : 1 ≤ get_or quant n 0) (high : get_or quant n 0 ≤ 255) where
  abbrev q : ℕ
  q = get_or quant n 0

  abbrev S : ℤ
  S = scaled_sum 128 block n

  -- |S| ≤ 2^42, so no coefficient saturates
  sum-size : nat_abs S ≤ 2 ^ 42
  unfolding centred_block
  sum-size =
      subst (λ (z : ℤ). nat_abs z ≤ 2 ^ 42) (sum-centred 128 block n)
      (scaled-size (centred_block 128 block) 128 (get_d-every (λ (z : ℤ). nat_abs z ≤ 128) 64 (sample_of block) (pos 0) zero-le (λ i b. sample-size block bytes i)) n h)

  small : rounded (nat_abs S) (q * 2 ^ 32) < 2 ^ 15
  unfolding rounded
  small =
      let m : ℕ = q * 2 ^ 32 in
      omega (arith, quotient-small (nat_abs S / m) (nat_abs S % m) q (div-add-mod' (nat_abs S) m) low (omega (arith, sum-size)), one_more (leb m (2 * (nat_abs S % m))))

  by-quantizer : canonical block quant n ≡ with_sign S (rounded (nat_abs S) (q * 2 ^ 32))
  unfolding canonical_at coefficient divisor_of
  by-quantizer = let d : divisor_of q ≡ q = omega arith in ap (λ (k : ℕ). with_sign S (rounded (nat_abs S) (k * 2 ^ 32))) d

  scaled-is : scaled_value block (reciprocals quant) n ≡ mul binary64 (fdct_value block n) (reciprocal q (n % 8) (n / 8))
  unfolding scaled_value reciprocals
  scaled-is = ap (mul binary64 (fdct_value block n)) (get_d-tab 64 (λ n. reciprocal (get_or quant n 0) (n % 8) (n / 8)) nan n h)

  guarded-agrees : guarded block quant (reciprocals quant) n ≡ canonical block quant n
  unfolding guarded
  guarded-agrees = go (near_half (scaled_value block (reciprocals quant) n)) refl
    where
      go : (b : Bool) → near_half (scaled_value block (reciprocals quant) n) ≡ b → cond b (canonical block quant n) (rounded_to_i16 (scaled_value block (reciprocals quant) n)) ≡ canonical block quant n
      go true e = refl
      go false e =
          ap rounded_to_i16 scaled-is
          ∙ guard (q * 2 ^ 32) error_units (mul-pos low (pow_pos 32)) within-guard (scaled-worth block bytes n h q low high) (sym (ap near_half scaled-is) ∙ e) S (scaled-apart block bytes n h q low high) small
          ∙ sym by-quantizer

-- ---- a block of equal samples
module _ (block quant : List ℕ) (equal : constant block ≡ true) where
  no-ac : (n : ℕ) → n < 64 → 0 < n → canonical block quant n ≡ pos 0
  unfolding canonical_at coefficient with_sign divisor_of
  no-ac n h p =
      let d : 0 * 2 < divisor_of (get_or quant n 0) * 2 ^ 32 = omega arith in
      ap (λ (z : ℤ). coefficient z (get_or quant n 0)) (constant-ac block equal n h p) ∙ ap pos (below_half 0 (divisor_of (get_or quant n 0) * 2 ^ 32) d)

  constant-agrees : (n : ℕ) → n < 64 → only_dc block quant n ≡ canonical block quant n
  unfolding only_dc
  constant-agrees n h = go (eqb n 0) refl
    where
      go : (b : Bool) → eqb n 0 ≡ b → cond b (canonical block quant 0) (pos 0) ≡ canonical block quant n
      go true e = ap (canonical block quant) (sym (eqb-true n 0 e))
      go false e = sym (no-ac n h (omega (arith, eqb-false n 0 e)))

-- ---- the theorem
module _ (block quant : List ℕ) (samples : Bytes block) (quantizers : Quantizers quant) where
  pub agreement : Agree block quant
  unfolding coefficients_of
  agreement n h = go (constant block) refl
    where
      go : (b : Bool) → constant block ≡ b → cond b (only_dc block quant) (guarded block quant (reciprocals quant)) n ≡ canonical block quant n
      go true e = constant-agrees block quant e n h
      go false e = guarded-agrees block quant samples.most n h (quantizers.least n h) (quantizers.bytes.most n)

  -- all 64: what the canonical block entry writes
  pub equal-coefficients : tab 64 (coefficients_of block quant (reciprocals quant)) ≡ coefficients block quant
  unfolding coefficients_at
  equal-coefficients = tab-ext 64 (coefficients_of block quant (reciprocals quant)) (canonical block quant) agreement
