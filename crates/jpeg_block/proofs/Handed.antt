-- The queue of benches for C: what the statuses of its calls say. Assumes nothing.
use mathlib.Core.Path.{◌≡◌, refl, sym, ap, ◌∙◌}
use mathlib.Core.Bool.{true}
use mathlib.Core.List.{List, [], ◌∷◌}
use Prim.Native.Nat.{ℕ}
use native.Mathlib.Omega.{arith}
use lib.ListN.{length}
use Rattle.std.specs.Prelude.{Result, Ok, Err}
use Rattle.refusals.specs.declared.Refusal.{Refusal}
use Rattle.refusals.specs.Refusals.{Test, ◌unless◌, ◌of◌, status, written}
use Rattle.refusals.specs.Numbers.{number, status_of}
use Rattle.refusals.proofs.Refusals.{has, kept, passed-all}
use Rattle.refusals.proofs.Numbers.{number-nonzero}
use Rattle.bench_queue.specs.State.{in_range}
use Rattle.bench_queue.specs.Calls.{report_tests, turn_tests, turn_output}
use Rattle.bench_queue.specs.declared.BenchQueue.{BenchQueue}
use Rattle.jpeg_block.specs.Queue.{handed_turn_tests, handed_state}
use lib.Dec.{ltb→lt}

-- a state of ten numbers leaves the tests behind it
pub ten : (state : List ℕ) (ts : List Test) → length state ≡ 10 → status ts ≡ status (13 unless state of 10 ∷ ts)
unfolding status
ten state ts h = simp (has h) refl

-- the status of a result, by its case
pub of-ok : {A : Type 0} {r : Result A Refusal} {x : A} {s : ℕ} → r ≡ Ok x → status_of r ≡ s → 0 ≡ s
of-ok e f = ap status_of (sym e) ∙ f

pub of-err : {A : Type 0} {r : Result A Refusal} {d : Refusal} {s : ℕ} → r ≡ Err d → status_of r ≡ s → number d ≡ s
of-err e f = ap status_of (sym e) ∙ f

pub nonzero : (d : Refusal) → number d ≡ 0 → ⊥
nonzero d z = omega (arith, ltb→lt 0 (number d) (number-nonzero d), z)

-- where the report is not refused
pub in-range : (q : BenchQueue) → 0 ≡ status (report_tests q) → in_range q ≡ true
in-range q e = (passed-all (report_tests q) tt (sym e)).0

-- a turn's own tests are those that are left
pub turn-tests : (state out answer : List ℕ) → length state ≡ 10 → in_range (handed_state state) ≡ true → length answer ≡ 2 → status (turn_tests (handed_state state) out) ≡ status (handed_turn_tests state out answer)
unfolding status
turn-tests state out answer long range place = simp (has long, range, has place) refl

-- a refused turn writes nothing
pub out-kept : (q : BenchQueue) (l : ℕ) (out : List ℕ) {r : ℕ} → (r ≡ 0 → ⊥) → r ≡ status (turn_tests q out) → turn_output q l out ≡ out
unfolding turn_output
out-kept q l out h e = sym (kept _ out (λ z. h (e ∙ z)))
