-- What a record is held to.
use Rattle.std.specs.Prelude.{◌≡◌, ℕ, List, Option, Some}

-- A record agrees: the call did not refuse, the file has as many bytes as its answer, and they are the same, every one.
abbrev pub Agrees : List ℕ → Option (List ℕ) → Type 0
Agrees recorded answer = answer ≡ Some recorded
