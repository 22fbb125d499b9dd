-- The queue of benches for C (crate bench_queue): a state is ten numbers in a lent place.
use Rattle.std.specs.Prelude.{List, [], ◌∷◌, ◌++◌, ℕ, ◌+◌, get_or, Option, Some, None}
use Rattle.lists.specs.Tab.{tab}
use Rattle.refusals.specs.Refusals.{Test, ◌unless◌, ◌of◌}
use Rattle.bench_queue.specs.State.{waiting_at, in_range}
use Rattle.bench_queue.specs.Calls.{deposit_tests, report_tests}
use Rattle.bench_queue.specs.declared.BenchQueue.{BenchQueue}
use Rattle.bench_queue.specs.declared.Word.{Word}
use Rattle.bench_queue.specs.declared.Word.TheVariants.{Spent, Idle}

-- the bench count, the bench last served, the eight waiting counts
unfoldable pub state_numbers : BenchQueue → List ℕ
state_numbers s = s.benches ∷ s.last ∷ tab 8 (waiting_at s)

unfoldable pub handed_state : List ℕ → BenchQueue
handed_state state = record { benches = get_or state 0 0; last = get_or state 1 0; waiting = tab 8 (λ b. get_or state (2 + b) 0) }

-- the word of an accepted turn; a refused one has neither, and writes no number
abbrev pub word_number : Option Word → ℕ
word_number None = 0
word_number (Some Spent) = 1
word_number (Some Idle) = 2

-- 13, a state not of ten numbers, as one out of range; the entry's tests; 3, a place of the wrong length
abbrev pub handed_deposit_tests : List ℕ → ℕ → ℕ → List Test
handed_deposit_tests state bench blocks = 13 unless state of 10 ∷ deposit_tests (handed_state state) bench blocks

abbrev pub handed_turn_tests : List ℕ → List ℕ → List ℕ → List Test
handed_turn_tests state out answer =
    13 unless state of 10 ∷ 13 unless in_range (handed_state state) ∷ 3 unless answer of 2 ∷ 3 unless out of 4096 ∷ []

abbrev pub handed_report_tests : List ℕ → List ℕ → List Test
handed_report_tests state counts = 13 unless state of 10 ∷ report_tests (handed_state state) ++ 3 unless counts of 8 ∷ []
