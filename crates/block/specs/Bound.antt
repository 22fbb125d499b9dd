-- How large the numbers of a list are.
use Rattle.std.specs.Prelude.{List, ℕ, ◌≤◌, get_or, ℤ, pos, nat_abs}

-- no entry is larger than B in absolute value
abbrev pub AtMost : ℕ → List ℤ → Type 0
AtMost B p = (k : ℕ) → nat_abs (get_or p k (pos 0)) ≤ B
