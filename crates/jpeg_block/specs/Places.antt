-- Answers that the entries hold by value, laid out for C: the status is returned, and each value goes to a lent place. Document 01 has no
-- length for these places, nor for divisors in a slice. So they are tested last, and a call that the entry refuses has the entry's
-- number here too.
use Rattle.std.specs.Prelude.{Bool, cond, List, [], ◌∷◌, ℕ, eqb, ℤ}
use Rattle.refusals.specs.Refusals.{Test, ◌unless◌, ◌of◌}
use Rattle.guarded_quantizer.specs.declared.QuantizedBlock.{QuantizedBlock}

-- 3, a place not of one number
abbrev pub place_tests : {A : Type 0} → List A → List Test
place_tests place = 3 unless place of 1 ∷ []

-- a flag as a number
unfoldable pub flag : Bool → ℕ
flag answer = cond answer 1 0

-- the places of a record, by the lengths: 3, one of the wrong length
abbrev pub record_place_tests : ℕ → ℕ → ℕ → ℕ → List Test
record_place_tests dc ac bitmap divisors = 3 unless eqb dc 1 ∷ 3 unless eqb ac 64 ∷ 3 unless eqb bitmap 1 ∷ 3 unless eqb divisors 64 ∷ []

-- the guarded quantizer, by the lengths: 2, divisors not of 64; then those
unfoldable pub record_tests : ℕ → ℕ → ℕ → ℕ → ℕ → List Test
record_tests reciprocals dc ac bitmap divisors = 2 unless eqb reciprocals 64 ∷ record_place_tests dc ac bitmap divisors

-- two records handed over, by the lengths: 1, AC places not of 64, of either; 2, divisors not of 64, of either
abbrev pub handed_tests : List ℤ → List ℕ → List ℤ → List ℕ → List Test
handed_tests ac divisors ac' divisors' = 1 unless ac of 64 ∷ 1 unless ac' of 64 ∷ 2 unless divisors of 64 ∷ 2 unless divisors' of 64 ∷ []

-- the record of the parts handed over: the bitmap is not asked for, since sameness does not look at it
unfoldable pub handed_record : ℤ → List ℤ → List ℕ → QuantizedBlock
handed_record dc ac divisors = record { dc = dc; ac_coefficients = ac; nonzero_ac = 0; divisors = divisors }
