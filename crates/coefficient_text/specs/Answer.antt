-- What `coefficient_text` answers, and what its output holds after the call.
use Rattle.std.specs.Prelude.{List, [], ◌∷◌, ◌++◌, ℕ, length, drop}
use Rattle.refusals.specs.Refusals.{Test, ◌unless◌, ◌of◌}
use Rattle.refusals.specs.Numbers.{Answer, answer}
use Rattle.coefficient_text.specs.Text.{text}

-- 3, an output not of 448 places; a refusal of the input is a text: its number is printed
abbrev pub text_tests : List ℕ → List Test
text_tests out = 3 unless out of 448 ∷ []

-- the status, and how many bytes the text has
abbrev pub printed : List ℕ → List ℕ → Answer ℕ
printed input out = answer (text_tests out) (length (text input)) 0

-- the text, and behind it what was there
unfoldable pub placed : List ℕ → List ℕ → List ℕ
placed input out = text input ++ drop (length (text input)) out
