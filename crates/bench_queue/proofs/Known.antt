-- A worked history, computed on the definitions. Assumes nothing.
use mathlib.Core.Path.{◌≡◌, refl}
use mathlib.Core.List.{List, [], ◌∷◌}
use Prim.Native.Nat.{ℕ}
use lib.ListN.{replicate, take}
use Rattle.std.specs.Prelude.{Some}
use Rattle.lists.specs.Below.{below}
use Rattle.refusals.specs.Refusals.{status, written}
use Rattle.bench_queue.specs.State.{most_waiting, counts_fit, in_range, nobody_waits, queued, served}
use Rattle.bench_queue.specs.Calls.{fresh, new_answer, deposit_answer, following, first_waiting, next_bench, coded_benches, after_blocks, block_limit, word_of, turn_answer, overwritten, turn_output}
use Rattle.bench_queue.specs.History.{stepped, after_calls, listed_by, listed_all}
use Rattle.bench_queue.specs.History.Call.{Deposit, Turn}
use Rattle.bench_queue.specs.declared.BenchQueue.{BenchQueue}
use Rattle.bench_queue.specs.declared.Word.TheVariants.{Spent}

-- three benches; two blocks at bench 0, one at bench 2
abbrev start : BenchQueue
start = after_calls (new_answer 3).state (Deposit 0 2 ∷ Deposit 2 1 ∷ [])

unfoldable pub places : List ℕ
places = replicate 4096 9

-- the first turn has two blocks, the second all that is left
pub first : ((turn_answer start 2 places).listed ≡ 2) × ((turn_answer start 2 places).word ≡ Some Spent) × (take 4 (turn_output start 2 places) ≡ 0 ∷ 2 ∷ 9 ∷ 9 ∷ [])
unfolding places below status written most_waiting counts_fit in_range nobody_waits queued served fresh new_answer deposit_answer following first_waiting next_bench coded_benches after_blocks block_limit word_of turn_answer overwritten turn_output stepped after_calls
first = (refl, refl, refl)

pub blocks : listed_all start (Turn 2 places ∷ Deposit 1 1 ∷ Turn 5000 places ∷ []) ≡ 0 ∷ 2 ∷ 0 ∷ 1 ∷ []
unfolding places below status written most_waiting counts_fit in_range nobody_waits queued served fresh new_answer deposit_answer following first_waiting next_bench coded_benches after_blocks block_limit word_of turn_answer overwritten turn_output stepped after_calls listed_by listed_all
blocks = refl
