-- What the steps of one parity work on: centred samples, their folds, and the 64 places of the output.
-- These are clauses and not types, since docs/PROOFS.md names the functions that ask them, and a type
-- would ask more of their callers.
use Rattle.std.specs.Prelude.{◌≡◌, List, ℕ, ◌^◌, ◌≤◌, length, get_or, ℤ, pos, nat_abs}

-- samples of up to 12 bits less their centre
abbrev pub Centred : List ℤ → Type 0
Centred c = (i : ℕ) → nat_abs (get_or c i (pos 0)) ≤ 2 ^ 11

-- folds of four of them
abbrev pub Folded : List ℤ → Type 0
Folded f = (k : ℕ) → nat_abs (get_or f k (pos 0)) ≤ 2 ^ 13

-- what a step needs to write one place, before and after it
pub record Ready (f out : List ℤ) : Type 0 where
  pub small : Folded f
  pub long : length out ≡ 64
