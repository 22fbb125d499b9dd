-- Document 01, "The guarded quantizer" and "Refusing calls": what `fdct_quantize` of transform.rs answers.
use Rattle.std.specs.Prelude.{ℕ, cond, List, ◌∷◌, ℤ, pos}
use Rattle.std.specs.Prelude.{Float}
use Rattle.lists.specs.Tab.{tab}
use Rattle.refusals.specs.Refusals.{Test, ◌unless◌, ◌of◌}
use Rattle.refusals.specs.Numbers.{Answer, answer}
use Rattle.guarded_quantizer.specs.Divisors.{table_tests}
use Rattle.guarded_quantizer.specs.Guarded.{guarded}
use Rattle.guarded_quantizer.specs.Constant.{constant, only_dc}
use Rattle.guarded_quantizer.specs.Record.{record_of}
use Rattle.guarded_quantizer.specs.declared.QuantizedBlock.{QuantizedBlock}

-- the coefficients by their natural index
unfoldable pub coefficients_of : List ℕ → List ℕ → List Float → ℕ → ℤ
coefficients_of block quant reciprocals = cond (constant block) (only_dc block quant) (guarded block quant reciprocals)

-- "Guarded: 1; 2; then 5"
abbrev pub guarded_tests : List ℕ → List ℕ → List Test
guarded_tests block quant = 1 unless block of 64 ∷ table_tests quant

unfoldable pub zero_record : QuantizedBlock
zero_record = record { dc = pos 0; ac_coefficients = tab 64 (λ _. pos 0); nonzero_ac = 0; divisors = tab 64 (λ _. 0) }

unfoldable pub guarded_answer : List ℕ → List ℕ → List Float → Answer QuantizedBlock
guarded_answer block quant reciprocals =
    answer (guarded_tests block quant) (record_of quant (coefficients_of block quant reciprocals)) zero_record
