-- Document 02, card 11: what each call answers, and what a turn leaves in its output.
use Rattle.std.specs.Prelude.{cond, ◌&&◌, List, [], ◌∷◌, ◌++◌, ℕ, zero, suc, ◌+◌, ◌-◌, min, leb, ltb, length, drop, replicate, Some, None}
use Rattle.refusals.specs.Refusals.{Test, ◌unless◌, ◌of◌, status, written}
use Rattle.bench_queue.specs.State.{waiting_at, in_range, nobody_waits, queued, served}
use Rattle.bench_queue.specs.declared.BenchQueue.{BenchQueue}
use Rattle.bench_queue.specs.Told.{Updated, Turned, Reported}
use Rattle.bench_queue.specs.declared.Word.{Word}
use Rattle.bench_queue.specs.declared.Word.TheVariants.{Spent, Idle}

-- ---- new

-- "a new state starts with bench 0": the bench last served is the one before bench 0
unfoldable pub fresh : ℕ → BenchQueue
fresh benches = record { benches = benches; last = benches - 1; waiting = replicate 8 0 }

-- "the zero record of a refused new state"
unfoldable pub zero_record : BenchQueue
zero_record = record { benches = 0; last = 0; waiting = replicate 8 0 }

-- "13, a bench count outside 1 to 8"
abbrev pub new_tests : ℕ → List Test
new_tests benches = 13 unless (leb 1 benches && leb benches 8) ∷ []

unfoldable pub new_answer : ℕ → Updated
new_answer benches = let r = status (new_tests benches) in record { status = r; state = written r (fresh benches) zero_record }

-- ---- deposit

-- a state out of range gets 13 "from every call before any other test"; 13, "a bench number not below" the bench count; "14, a deposit
-- that takes a waiting count above 65535"
abbrev pub deposit_tests : BenchQueue → ℕ → ℕ → List Test
deposit_tests s b n = 13 unless in_range s ∷ 13 unless ltb b s.benches ∷ 14 unless leb (waiting_at s b + n) 65535 ∷ []

-- "a refused deposit or turn gives back the state it was given"
unfoldable pub deposit_answer : BenchQueue → ℕ → ℕ → Updated
deposit_answer s b n = let r = status (deposit_tests s b n) in record { status = r; state = written r (queued s b n) s }

-- ---- turn

-- the bench after b in cyclic order
unfoldable pub following : ℕ → ℕ → ℕ
following benches b = cond (ltb (b + 1) benches) (b + 1) 0

-- of the k benches after b, the first that waits; the bench count where none does
unfoldable pub first_waiting : BenchQueue → ℕ → ℕ → ℕ
first_waiting s zero b = s.benches
first_waiting s (suc k) b = let c = following s.benches b in cond (ltb 0 (waiting_at s c)) c (first_waiting s k c)

-- "the next waiting bench in cyclic order after the one last served"
unfoldable pub next_bench : BenchQueue → ℕ
next_bench s = first_waiting s s.benches s.last

-- "the bench of each of up to L coded blocks", "one at a time, each time for the next waiting bench"
unfoldable pub coded_benches : ℕ → BenchQueue → List ℕ
coded_benches zero s = []
coded_benches (suc l) s = let b = next_bench s in cond (ltb b s.benches) (b ∷ coded_benches l (served s b)) []

-- the state after them
unfoldable pub after_blocks : ℕ → BenchQueue → BenchQueue
after_blocks zero s = s
after_blocks (suc l) s = let b = next_bench s in cond (ltb b s.benches) (after_blocks l (served s b)) s

-- "L above 4096 acts as 4096"
unfoldable pub block_limit : ℕ → ℕ
block_limit l = min l 4096

-- "idle" when nobody waits, also where both words hold; else "spent" (then exactly L blocks were coded: `spent` of proofs/Words.antt)
unfoldable pub word_of : BenchQueue → Word
word_of s = cond (nobody_waits s) Idle Spent

-- "in a lent output of 4096 places (else 3)"
abbrev pub turn_tests : BenchQueue → List ℕ → List Test
turn_tests s out = 13 unless in_range s ∷ 3 unless out of 4096 ∷ []

-- the new state, "the number of blocks it listed", and its word; "a refused deposit or turn gives back the state it was given, the turn
-- with neither word"
unfoldable pub turn_answer : BenchQueue → ℕ → List ℕ → Turned
turn_answer s l out =
    let r = status (turn_tests s out) in
    let after = after_blocks (block_limit l) s in
    record {
      status = r;
      state = written r after s;
      listed = written r (length (coded_benches (block_limit l) s)) 0;
      word = written r (Some (word_of after)) None;
    }

-- the listed places, "and writes no other place"
unfoldable pub overwritten : List ℕ → List ℕ → List ℕ
overwritten list out = list ++ drop (length list) out

unfoldable pub turn_output : BenchQueue → ℕ → List ℕ → List ℕ
turn_output s l out = written (status (turn_tests s out)) (overwritten (coded_benches (block_limit l) s) out) out

-- ---- report

abbrev pub report_tests : BenchQueue → List Test
report_tests s = 13 unless in_range s ∷ []

-- "every bench's waiting count and the state unchanged"; "a refused report gives it back unchanged and reports counts of zero"
unfoldable pub report_answer : BenchQueue → Reported
report_answer s = let r = status (report_tests s) in record { status = r; state = s; waiting = written r s.waiting (replicate 8 0) }
