-- The guarded coefficients, as the code chooses them.
-- Assumes nothing.
use Rattle.std.specs.Prelude.{◌≡◌, ℕ, ◌<◌, cond, List, get_or, ℤ}
use mathlib.Core.Path.{ap, ◌∙◌}
use lib.Ieee.{Float, nan, binary64, mul}
use Rattle.lists.proofs.Tab.{get_d-tab}
use Rattle.quantize.specs.Quantize.{coefficient}
use Rattle.forward.specs.Forward.{scaled_sum}
use Rattle.guarded_quantizer.specs.Binary64.{near_half, rounded_to_i16}
use Rattle.forward.specs.Canonical.{canonical_at}
use Rattle.guarded_quantizer.specs.Values.{fdct_value, fdct_values}
use Rattle.guarded_quantizer.specs.Guarded.{scaled_value, guarded}

-- the coefficient that `coefficient_of` gives at place n of the transform's values
pub guarded-at : (block quant : List ℕ) (rs : List Float) (n : ℕ) {values : List Float} {r : ℤ} → values ≡ fdct_values block → n < 64 →
    r ≡ cond (near_half (mul binary64 (get_or values n nan) (get_or rs n nan))) (coefficient (scaled_sum 128 block n) (get_or quant n 0)) (rounded_to_i16 (mul binary64 (get_or values n nan) (get_or rs n nan))) →
    r ≡ guarded block quant rs n
unfolding fdct_values scaled_value canonical_at guarded
guarded-at block quant rs n e h q =
    let value = ap (λ (l : List Float). get_or l n nan) e ∙ get_d-tab 64 (fdct_value block) nan n h in
    q ∙ ap (λ (v : Float). cond (near_half (mul binary64 v (get_or rs n nan))) (coefficient (scaled_sum 128 block n) (get_or quant n 0)) (rounded_to_i16 (mul binary64 v (get_or rs n nan)))) value
