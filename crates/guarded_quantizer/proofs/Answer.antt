-- The answers of `fdct_quantize` of transform.rs, as its code builds them.
-- Assumes nothing.
use Rattle.std.specs.Prelude.{◌≡◌, ℕ, Bool, cond, List, length, replicate, pos}
use mathlib.Core.Path.{refl, sym, ap, ◌∙◌}
use borrow.Author.Tests.{eqb-true}
use lib.Ieee.{Float}
use Rattle.lists.specs.Tab.{tab}
use Rattle.refusals.specs.Refusals.{status}
use Rattle.refusals.proofs.Refusals.{passed-all}
use Rattle.guarded_quantizer.specs.Guarded.{guarded}
use Rattle.guarded_quantizer.specs.Constant.{constant, only_dc}
use Rattle.guarded_quantizer.specs.Record.{record_of}
use Rattle.guarded_quantizer.specs.Answer.{coefficients_of, guarded_tests, zero_record}

-- what a refusal holds by value
pub zeros : record { dc = pos 0; ac_coefficients = replicate 64 (pos 0); nonzero_ac = 0; divisors = replicate 64 0 } ≡ zero_record
unfolding tab zero_record
zeros = refl

-- where nothing is refused, block and table are of 64
pub guarded-lengths : (block quant : List ℕ) {s : ℕ} → s ≡ status (guarded_tests block quant) → s ≡ 0 → (length block ≡ 64) × (length quant ≡ 64)
guarded-lengths block quant e z =
    let all = passed-all (guarded_tests block quant) tt (sym e ∙ z) in
    (eqb-true _ _ all.0, eqb-true _ _ all.1.0)

module _ (block quant : List ℕ) (rs : List Float) where
  pub by-constant : {t : Bool} → t ≡ constant block → record_of quant (cond t (only_dc block quant) (guarded block quant rs)) ≡ record_of quant (coefficients_of block quant rs)
  unfolding coefficients_of
  by-constant e = ap (λ (t : Bool). record_of quant (cond t (only_dc block quant) (guarded block quant rs))) e
