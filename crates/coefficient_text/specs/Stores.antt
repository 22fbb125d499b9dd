-- What the functions that write a part of a text ensure.
use Rattle.std.specs.Prelude.{◌≡◌, List, ℕ, ◌+◌, ◌≤◌, length}
use Rattle.std.proofs.lemmas.List.Edits.{sets}

-- at most `room` bytes stored from a place on and nothing else changed, and the place behind them
pub record Wrote (room : ℕ) (before : List ℕ) (at : ℕ) (bytes : List ℕ) (left : List ℕ) (next : ℕ) : Type 0 where
  pub content : left ≡ sets before at bytes
  pub place : next ≡ at + length bytes
  pub short : next ≤ at + room
  pub long : length left ≡ length before
