-- Document 02, card 11: what a call's outcome and state say, in the card's terms: its status, 0 or the number of its refusal, the state, and
-- what its answer holds by value.
use Rattle.std.specs.Prelude.{ℕ, List, ⊤, Result, Ok, Err, Option, Some, None, replicate}
use Rattle.refusals.specs.declared.Refusal.{Refusal}
use Rattle.refusals.specs.Numbers.{status_of}
use Rattle.bench_queue.specs.declared.BenchQueue.{BenchQueue}
use Rattle.bench_queue.specs.declared.Called.{Called}
use Rattle.bench_queue.specs.declared.Coded.{Coded}
use Rattle.bench_queue.specs.declared.Word.{Word}

-- of a new state and of a deposit
pub record Updated : Type 0 where
  pub status : ℕ
  pub state : BenchQueue

-- of a turn, with the number of places listed; `None` is neither word
pub record Turned : Type 0 where
  pub status : ℕ
  pub state : BenchQueue
  pub listed : ℕ
  pub word : Option Word

pub record Reported : Type 0 where
  pub status : ℕ
  pub state : BenchQueue
  pub waiting : List ℕ

abbrev pub updated : Called ⊤ → Updated
updated c = record { status = status_of c.outcome; state = c.state }

-- a refused turn lists nothing, and says neither word
abbrev pub listed_of : Result Coded Refusal → ℕ
listed_of (Ok t) = t.listed
listed_of (Err e) = 0

abbrev pub word_told : Result Coded Refusal → Option Word
word_told (Ok t) = Some t.word
word_told (Err e) = None

abbrev pub turned : Called Coded → Turned
turned c = record { status = status_of c.outcome; state = c.state; listed = listed_of c.outcome; word = word_told c.outcome }

-- "a refused report [..] reports counts of zero"
abbrev pub counts_of : Result (List ℕ) Refusal → List ℕ
counts_of (Ok w) = w
counts_of (Err e) = replicate 8 0

abbrev pub reported : Called (List ℕ) → Reported
reported c = record { status = status_of c.outcome; state = c.state; waiting = counts_of c.outcome }
