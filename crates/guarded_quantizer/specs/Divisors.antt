-- Document 01, "The guarded quantizer" and "Refusing calls": the divisors.
use Rattle.std.specs.Prelude.{ℕ, ◌/◌, ◌%◌, Bool, false, not, ◌||◌, List, [], ◌∷◌, pos, ◌==◌, slice_index, slice_index_or}
use Rattle.std.specs.Prelude.{Float}
use Rattle.std.specs.Float.{nan, binary64}
use Rattle.std.specs.Float.Ieee.{mul, div, of_int}
use Rattle.lists.specs.Tab.{tab}
use Rattle.refusals.specs.Refusals.{Test, ◌unless◌, ◌of◌}
use Rattle.refusals.specs.Numbers.{Answer, answer}
use Rattle.guarded_quantizer.specs.Literals.{decimal}
use Rattle.guarded_quantizer.specs.declared.QuantizationDivisors.{QuantizationDivisors}

-- `AAN_SCALE`
unfoldable pub aan_scale : List Float
aan_scale =
    decimal 1 0
    ∷ decimal 13870398453221475 16
    ∷ decimal 13065629648763766 16
    ∷ decimal 11758756024193588 16
    ∷ decimal 1 0
    ∷ decimal 7856949583871022 16
    ∷ decimal 5411961001461971 16
    ∷ decimal 2758993792829431 16
    ∷ []

-- the reciprocal of 8·AAN_SCALE[u]·AAN_SCALE[v]·quantizer, multiplied left to right
unfoldable pub reciprocal : ℕ → ℕ → ℕ → Float
reciprocal q u v =
    let first = mul binary64 (decimal 8 0) (slice_index_or aan_scale u nan) in
    let second = mul binary64 first (slice_index_or aan_scale v nan) in
    div binary64 (decimal 1 0) (mul binary64 second (of_int binary64 (pos q)))

-- the divisors hold 64 f64 reciprocals, n = 8v + u
unfoldable pub reciprocals : List ℕ → List Float
reciprocals quant = tab 64 (λ n. reciprocal (slice_index quant n) (n % 8) (n / 8))

-- a quantizer 0 anywhere
unfoldable pub has_zero : List ℕ → Bool
has_zero [] = false
has_zero (q ∷ quant) = q == 0 || has_zero quant

-- "Making the divisors: 2, then 5": a quantizer table not of 64; a quantizer 0 anywhere
abbrev pub table_tests : List ℕ → List Test
table_tests quant = 2 unless quant of 64 ∷ 5 unless not (has_zero quant) ∷ []

abbrev pub made_divisors : List Float → QuantizationDivisors
made_divisors l = record { reciprocals = l }

unfoldable pub zero_divisors : List Float
zero_divisors = tab 64 (λ _. decimal 0 0)

unfoldable pub divisors_answer : List ℕ → Answer QuantizationDivisors
divisors_answer quant = answer (table_tests quant) (made_divisors (reciprocals quant)) (made_divisors zero_divisors)
