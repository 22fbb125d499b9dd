-- Calls by whether they are accepted, and what every call keeps. Assumes nothing.
use mathlib.Core.Path.{◌≡◌, refl, ap, ◌∙◌}
use mathlib.Core.Bool.{Bool, true, false, cond}
use mathlib.Core.List.{List, []}
use mathlib.Core.Logic.{◌⊎◌, inl, inr}
use Prim.Native.Nat.{ℕ, zero, suc, ◌+◌, ◌-◌, ◌≤◌, ◌<◌}
use native.Mathlib.Decide.{ℕ_discrete, dec_lt}
use native.Mathlib.Omega.{arith}
use borrow.Author.Tests.{ltb-true, leb-true, eqb-true, lt-ltb}
use lib.Dec.{leb, ltb, eqb}
use lib.ListN.{length, get_or, set, replicate, length-set}
use lib.Seq.{get_or-set_same, get_or-set_other, set_out, take-append_seam}
use Rattle.refusals.specs.Refusals.{status, written}
use Rattle.refusals.proofs.Refusals.{either}
use Rattle.bench_queue.specs.State.{waiting_at, most_waiting, in_range, queued, served}
use Rattle.bench_queue.specs.Calls.{fresh, zero_record, new_tests, new_answer, deposit_answer, next_bench, coded_benches, after_blocks, block_limit, turn_tests, turn_answer, overwritten, turn_output, report_answer}
use Rattle.bench_queue.specs.History.{Call, stepped, listed_by}
use Rattle.bench_queue.specs.History.Call.{Deposit, Turn, Report}
use Rattle.bench_queue.specs.declared.BenchQueue.{BenchQueue}
use Rattle.bench_queue.proofs.Range.{Ranged, ranged}
use Rattle.bench_queue.proofs.Blocks.{after-ranged}

-- ---- deposits

pub record Deposits (s : BenchQueue) (b n : ℕ) : Type 0 where
  pub range : Ranged s
  pub bench : b < s.benches
  pub fits : waiting_at s b + n ≤ 65535
  pub state : (deposit_answer s b n).state ≡ queued s b n
  pub status : (deposit_answer s b n).status ≡ 0

pub record Refuses (s : BenchQueue) (b n : ℕ) : Type 0 where
  pub state : (deposit_answer s b n).state ≡ s
  pub status : eqb (deposit_answer s b n).status 0 ≡ false

pub deposit-cases : (s : BenchQueue) (b n : ℕ) → Deposits s b n ⊎ Refuses s b n
unfolding deposit_answer status written
deposit-cases s b n = go (in_range s) refl (ltb b s.benches) refl (leb (waiting_at s b + n) 65535) refl
  where
    go : (t : Bool) → in_range s ≡ t → (u : Bool) → ltb b s.benches ≡ u → (v : Bool) → leb (waiting_at s b + n) 65535 ≡ v → Deposits s b n ⊎ Refuses s b n
    go true e true f true g =
        inl
        (record { range = ranged s e; bench = ltb-true _ _ f; fits = leb-true _ _ g; state = simp (e, f, g); status = simp (e, f, g) })
    go true e true f false g = inr (record { state = simp (e, f, g); status = simp (e, f, g) })
    go true e false f v g = inr (record { state = simp (e, f); status = simp (e, f) })
    go false e u f v g = inr (record { state = simp e; status = simp e })

-- ---- turns

abbrev pub turn_status : BenchQueue → List ℕ → ℕ
turn_status s out = status (turn_tests s out)

pub record Turns (s : BenchQueue) (l : ℕ) (out : List ℕ) : Type 0 where
  pub range : Ranged s
  pub long : length out ≡ 4096
  pub status : turn_status s out ≡ 0

pub turn-cases : (s : BenchQueue) (l : ℕ) (out : List ℕ) → Turns s l out ⊎ (eqb (turn_status s out) 0 ≡ false)
unfolding status
turn-cases s l out = go (in_range s) refl (eqb (length out) 4096) refl
  where
    go : (t : Bool) → in_range s ≡ t → (u : Bool) → eqb (length out) 4096 ≡ u → Turns s l out ⊎ (eqb (turn_status s out) 0 ≡ false)
    go true e true f = inl (record { range = ranged s e; long = eqb-true _ _ f; status = simp (e, f) })
    go true e false f = inr (simp (e, f))
    go false e u f = inr (simp e)

-- the state and the list of an accepted turn, and of a refused one
pub turn-state : (s : BenchQueue) (l : ℕ) (out : List ℕ) → turn_status s out ≡ 0 → stepped s (Turn l out) ≡ after_blocks (block_limit l) s
unfolding stepped turn_answer written
turn-state s l out e = ap (λ (n : ℕ). written n (after_blocks (block_limit l) s) s) e

pub turn-list : (s : BenchQueue) (l : ℕ) (out : List ℕ) → turn_status s out ≡ 0 → listed_by s (Turn l out) ≡ coded_benches (block_limit l) s
unfolding listed_by turn_answer turn_output written overwritten
turn-list s l out e = simp e (take-append_seam (coded_benches (block_limit l) s) _)

pub refused-state : (s : BenchQueue) (l : ℕ) (out : List ℕ) → eqb (turn_status s out) 0 ≡ false → stepped s (Turn l out) ≡ s
unfolding stepped turn_answer written
refused-state s l out e = ap (λ (t : Bool). cond t (after_blocks (block_limit l) s) s) e

pub refused-list : (s : BenchQueue) (l : ℕ) (out : List ℕ) → eqb (turn_status s out) 0 ≡ false → listed_by s (Turn l out) ≡ []
unfolding listed_by turn_answer written
refused-list s l out e = simp e

-- ---- what every call keeps

after-benches : (m : ℕ) (s : BenchQueue) → (after_blocks m s).benches ≡ s.benches
unfolding after_blocks served
after-benches zero s = refl
after-benches (suc m) s = go (ltb (next_bench s) s.benches) (after-benches m (served s (next_bench s)))
  where
    go : (t : Bool) → (after_blocks m (served s (next_bench s))).benches ≡ s.benches → (cond t (after_blocks m (served s (next_bench s))) s).benches ≡ s.benches
    go true e = e
    go false e = refl

after-length : (m : ℕ) (s : BenchQueue) → length (after_blocks m s).waiting ≡ length s.waiting
unfolding after_blocks served
after-length zero s = refl
after-length (suc m) s = go (ltb (next_bench s) s.benches) (after-length m (served s (next_bench s)) ∙ length-set s.waiting (next_bench s) (waiting_at s (next_bench s) - 1))
  where
    go : (t : Bool) → length (after_blocks m (served s (next_bench s))).waiting ≡ length s.waiting → length (cond t (after_blocks m (served s (next_bench s))) s).waiting ≡ length s.waiting
    go true e = e
    go false e = refl

-- a count after a store of one more or as much
pub set-above : (w : List ℕ) (b v k : ℕ) → get_or w b 0 ≤ v → get_or w k 0 ≤ get_or (set w b v) k 0
set-above w b v k h = go (ℕ_discrete k b) (dec_lt b (length w))
  where
    go : Dec (k ≡ b) → Dec (b < length w) → get_or w k 0 ≤ get_or (set w b v) k 0
    go (yes e) (yes l) = rw (e, get_or-set_same w b v 0 l) h
    go (yes e) (no l) = let o : length w ≤ b = omega arith in rw (set_out w b v o) (omega arith)
    go (no e) l = rw (get_or-set_other w b k v 0 e) (omega arith)

queued-ranged : (s : BenchQueue) (b n : ℕ) → Deposits s b n → Ranged (queued s b n)
unfolding queued most_waiting
queued-ranged s b n d =
    let r = d.range in
    record { some = r.some; few = r.few; inside = r.inside; counts = λ k l. go k l (ℕ_discrete k b) (dec_lt b (length s.waiting)) }
  where
    w : List ℕ
    w = s.waiting

    go : (k : ℕ) → k < 8 → Dec (k ≡ b) → Dec (b < length w) → get_or (set w b (waiting_at s b + n)) k 0 ≤ cond (ltb k s.benches) 65535 0
    go k l (yes e) (yes i) = rw (e, lt-ltb b s.benches d.bench, get_or-set_same w b (waiting_at s b + n) 0 i) d.fits
    go k l (yes e) (no i) = let o : length w ≤ b = omega arith in rw (set_out w b (waiting_at s b + n) o) (d.range.counts k l)
    go k l (no e) i = rw (get_or-set_other w b k (waiting_at s b + n) 0 e) (d.range.counts k l)

pub stepped-ranged : (s : BenchQueue) (c : Call) → Ranged s → Ranged (stepped s c)
stepped-ranged s (Deposit b n) r = unfold stepped in go (deposit-cases s b n)
  where
    go : Deposits s b n ⊎ Refuses s b n → Ranged (deposit_answer s b n).state
    go (inl d) = rw d.state (queued-ranged s b n d)
    go (inr d) = rw d.state r
stepped-ranged s (Turn l out) r = go (turn-cases s l out)
  where
    go : Turns s l out ⊎ (eqb (turn_status s out) 0 ≡ false) → Ranged (stepped s (Turn l out))
    go (inl t) = rw (turn-state s l out t.status) (after-ranged (block_limit l) s r)
    go (inr t) = rw (refused-state s l out t) r
stepped-ranged s Report r = unfold stepped report_answer in r

pub stepped-benches : (s : BenchQueue) (c : Call) → (stepped s c).benches ≡ s.benches
stepped-benches s (Deposit b n) = unfold stepped queued in go (deposit-cases s b n)
  where
    go : Deposits s b n ⊎ Refuses s b n → (deposit_answer s b n).state.benches ≡ s.benches
    go (inl d) = ap (λ (t : BenchQueue). t.benches) d.state ∙ (unfold queued in refl)
    go (inr d) = ap (λ (t : BenchQueue). t.benches) d.state
stepped-benches s (Turn l out) = go (turn-cases s l out)
  where
    go : Turns s l out ⊎ (eqb (turn_status s out) 0 ≡ false) → (stepped s (Turn l out)).benches ≡ s.benches
    go (inl t) = ap (λ (x : BenchQueue). x.benches) (turn-state s l out t.status) ∙ after-benches (block_limit l) s
    go (inr t) = ap (λ (x : BenchQueue). x.benches) (refused-state s l out t)
stepped-benches s Report = unfold stepped report_answer in refl

pub stepped-length : (s : BenchQueue) (c : Call) → length (stepped s c).waiting ≡ length s.waiting
stepped-length s (Deposit b n) = unfold stepped in go (deposit-cases s b n)
  where
    go : Deposits s b n ⊎ Refuses s b n → length (deposit_answer s b n).state.waiting ≡ length s.waiting
    go (inl d) = ap (λ (t : BenchQueue). length t.waiting) d.state ∙ (unfold queued in length-set s.waiting b (waiting_at s b + n))
    go (inr d) = ap (λ (t : BenchQueue). length t.waiting) d.state
stepped-length s (Turn l out) = go (turn-cases s l out)
  where
    go : Turns s l out ⊎ (eqb (turn_status s out) 0 ≡ false) → length (stepped s (Turn l out)).waiting ≡ length s.waiting
    go (inl t) = ap (λ (x : BenchQueue). length x.waiting) (turn-state s l out t.status) ∙ after-length (block_limit l) s
    go (inr t) = ap (λ (x : BenchQueue). length x.waiting) (refused-state s l out t)
stepped-length s Report = unfold stepped report_answer in refl

-- ---- new states

pub new-waiting : (n : ℕ) → (new_answer n).state.waiting ≡ replicate 8 0
unfolding new_answer fresh zero_record
new-waiting n = either (λ (s : BenchQueue). s.waiting ≡ replicate 8 0) (status (new_tests n)) (fresh n) zero_record refl refl
