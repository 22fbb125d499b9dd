-- What the calls of demand 3 answer, made one after the other for two blocks and one table.
use Rattle.std.specs.Prelude.{Bool, false, List, [], ◌∷◌, ◌≡◌, ℕ, eqb, ℤ}
use Rattle.integers.specs.Fits16.{Fits16}
use Rattle.lists.specs.Every.{Every}
use Rattle.refusals.specs.Refusals.{Test, ◌unless◌, ◌of◌, written}
use Rattle.refusals.specs.Numbers.{Answer}
use Rattle.forward.specs.Canonical.{coefficients_at, up_to}
use Rattle.stored_blocks.specs.Stored.{same_blocks}
use Rattle.bounds.specs.Demand3.{Alike, Alike12bit, Near}

-- by the lengths: 1, a block not of 64 places; 2, a table not of 64; 3, an output not of 64
unfoldable pub round_trip_tests : ℕ → ℕ → ℕ → ℕ → ℕ → ℕ → ℕ → ℕ → ℕ → List Test
round_trip_tests a b quant coefficients_a coefficients_b products samples products_i32 samples_i32 =
    1 unless eqb a 64
    ∷ 1 unless eqb b 64
    ∷ 2 unless eqb quant 64
    ∷ 3 unless eqb coefficients_a 64
    ∷ 3 unless eqb coefficients_b 64
    ∷ 3 unless eqb products 64
    ∷ 3 unless eqb samples 64
    ∷ 3 unless eqb products_i32 64
    ∷ 3 unless eqb samples_i32 64
    ∷ []

-- whether the coefficients of two blocks with this centre are the same
unfoldable pub compared_result : ℕ → ℕ → List ℕ → List ℕ → List ℕ → Answer Bool
compared_result centre s a b quant = record { status = s; value = written s (same_blocks (coefficients_at centre a quant) (coefficients_at centre b quant)) false }

-- of 8 and of 12 bits
abbrev pub compared_answer : ℕ → List ℕ → List ℕ → List ℕ → Answer Bool
compared_answer s a b quant = compared_result 128 s a b quant

abbrev pub compared_answer12bit : ℕ → List ℕ → List ℕ → List ℕ → Answer Bool
compared_answer12bit s a b quant = compared_result 2048 s a b quant

-- "Both halves together are one claim, about what the calls write": the coefficients ca and cb of blocks a and b, and, from ca, the products
-- ps and qs and the samples cs and ds at the two input widths of the inverse
abbrev pub Claimed : List ℕ → List ℕ → List ℕ → List ℤ → List ℤ → List ℤ → List ℕ → List ℤ → List ℕ → Type 0
Claimed quant a b ca cb ps cs qs ds = (ca ≡ cb → Alike quant a b) × (Every Fits16 ps × Near quant a cs) × (Every Fits16 qs × Near quant a ds)

-- ---- document 02, card 8: two 12-bit blocks coded and compared

-- 1, a block not of 64 places; 2, a table not of 64; 3, an output not of 64; 12, a sample above 4095
unfoldable pub compare_tests12bit : List ℕ → List ℕ → ℕ → ℕ → ℕ → List Test
compare_tests12bit a b quant coefficients_a coefficients_b =
    1 unless a of 64
    ∷ 1 unless b of 64
    ∷ 2 unless eqb quant 64
    ∷ 3 unless eqb coefficients_a 64
    ∷ 3 unless eqb coefficients_b 64
    ∷ 12 unless up_to 4095 a
    ∷ 12 unless up_to 4095 b
    ∷ []

-- of the coefficients ca and cb that were written
abbrev pub Claimed12bit : List ℕ → List ℕ → List ℕ → List ℤ → List ℤ → Type 0
Claimed12bit quant a b ca cb = ca ≡ cb → Alike12bit quant a b
