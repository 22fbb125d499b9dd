-- Document 02, card 4: the counts of an 8-bit inverse, in a lent place: two numbers, raised and lowered, or none where they are not wanted.
-- Its length is tested last, as that of the other places here (`Places`).
use Rattle.std.specs.Prelude.{cond, ◌||◌, List, [], ◌∷◌, ℕ, eqb}
use Rattle.refusals.specs.Refusals.{Test, ◌unless◌, ◌of◌}

-- 3, a place for the counts neither of two numbers nor of none, by its length
unfoldable pub counts_tests : ℕ → List Test
counts_tests n = 3 unless (eqb n 2 || eqb n 0) ∷ []

-- what the place holds after a call that is not refused: the two numbers, where it has room for them
unfoldable pub counts_left : ℕ → ℕ → List ℕ → List ℕ
counts_left raised lowered held = cond (held of 2) (raised ∷ lowered ∷ []) held
