-- Document 02, card 11: "From a new state on, accepted deposits equal coded plus waiting for each bench". Assumes nothing.
use mathlib.Core.Path.{◌≡◌, refl, ap, ◌∙◌}
use mathlib.Core.Bool.{Bool, true, false, cond}
use mathlib.Core.List.{List, [], ◌∷◌, ◌++◌}
use mathlib.Core.Logic.{◌⊎◌, inl, inr}
use Prim.Native.Nat.{ℕ, zero, suc, ◌+◌, ◌-◌, ◌≤◌, ◌<◌}
use native.Mathlib.Decide.{dec_lt}
use native.Mathlib.Omega.{arith}
use borrow.Author.Tests.{ltb-true, eqb-true, eqb-false}
use lib.Dec.{ltb, eqb}
use lib.ListN.{length, get_or, set, replicate, get_or-eq_default, get_or-replicate}
use lib.Seq.{get_or-set_same, get_or-set_other}
use Rattle.refusals.specs.Refusals.{written}
use Rattle.bench_queue.specs.State.{waiting_at, queued, served}
use Rattle.bench_queue.specs.Calls.{new_answer, deposit_answer, next_bench, coded_benches, after_blocks, block_limit, report_answer}
use Rattle.bench_queue.specs.History.{Call, stepped, after_calls, deposited_by, listed_by, occurrences, deposited, listed_all}
use Rattle.bench_queue.specs.History.Call.{Deposit, Turn, Report}
use Rattle.bench_queue.specs.declared.BenchQueue.{BenchQueue}
use Rattle.bench_queue.proofs.Next.{next-waits}
use Rattle.bench_queue.proofs.Accepted.{Deposits, Refuses, deposit-cases, turn_status, Turns, turn-cases, turn-state, turn-list, refused-state, refused-list, stepped-length, new-waiting}

-- a count after a store
stored : (w : List ℕ) (b v k : ℕ) → b < length w → get_or (set w b v) k 0 ≡ cond (eqb k b) v (get_or w k 0)
stored w b v k h = go (eqb k b) refl
  where
    go : (t : Bool) → eqb k b ≡ t → get_or (set w b v) k 0 ≡ cond t v (get_or w k 0)
    go true e = rw (eqb-true k b e) (get_or-set_same w b v 0 h)
    go false e = get_or-set_other w b k v 0 (eqb-false k b e)

-- one block
one-served : (s : BenchQueue) (c b : ℕ) → 0 < waiting_at s c → waiting_at s b ≡ cond (eqb b c) 1 0 + waiting_at (served s c) b
unfolding served
one-served s c b h = go (dec_lt c (length s.waiting))
  where
    w : List ℕ
    w = s.waiting

    by : (t : Bool) → eqb b c ≡ t → get_or w b 0 ≡ cond t 1 0 + cond t (get_or w c 0 - 1) (get_or w b 0)
    by true e = omega (arith, ap (λ (x : ℕ). get_or w x 0) (eqb-true b c e))
    by false e = omega arith

    go : Dec (c < length w) → get_or w b 0 ≡ cond (eqb b c) 1 0 + get_or (set w c (get_or w c 0 - 1)) b 0
    go (yes i) = rw (stored w c (get_or w c 0 - 1) b i) (by (eqb b c) refl)
    go (no i) = let o : length w ≤ c = omega arith in absurd (omega (arith, get_or-eq_default w 0 o))

-- the blocks of a turn
blocks-conserved : (m : ℕ) (s : BenchQueue) (b : ℕ) → waiting_at s b ≡ occurrences b (coded_benches m s) + waiting_at (after_blocks m s) b
unfolding coded_benches after_blocks occurrences
blocks-conserved zero s b = omega arith
blocks-conserved (suc m) s b = go (ltb next s.benches) refl (blocks-conserved m (served s next) b)
  where
    next : ℕ
    next = next_bench s

    go : (t : Bool) → ltb next s.benches ≡ t → waiting_at (served s next) b ≡ occurrences b (coded_benches m (served s next)) + waiting_at (after_blocks m (served s next)) b
        → waiting_at s b ≡ occurrences b (cond t (next ∷ coded_benches m (served s next)) []) + waiting_at (cond t (after_blocks m (served s next)) s) b
    go true e h = omega (arith, one-served s next b (next-waits s (ltb-true _ _ e)))
    go false e h = omega arith

-- a call
call-conserved : (s : BenchQueue) (c : Call) (b : ℕ) → length s.waiting ≡ 8 → waiting_at s b + deposited_by s c b ≡ occurrences b (listed_by s c) + waiting_at (stepped s c) b
unfolding stepped deposited_by listed_by occurrences written
call-conserved s (Deposit a n) b long = go (deposit-cases s a n)
  where
    w : List ℕ
    w = s.waiting

    by : (t : Bool) → eqb b a ≡ t → get_or w b 0 + cond t n 0 ≡ cond t (get_or w a 0 + n) (get_or w b 0)
    by true e = omega (arith, ap (λ (x : ℕ). get_or w x 0) (eqb-true b a e))
    by false e = omega arith

    put : a < length w → waiting_at s b + cond (eqb b a) n 0 ≡ waiting_at (queued s a n) b
    put i = unfold queued in rw (stored w a (waiting_at s a + n) b i) (by (eqb b a) refl)

    go : Deposits s a n ⊎ Refuses s a n → waiting_at s b + cond (eqb (deposit_answer s a n).status 0) (cond (eqb b a) n 0) 0 ≡ 0 + waiting_at (deposit_answer s a n).state b
    go (inl d) =
        let i : a < length w = omega (arith, d.bench, d.range.few) in
        rw (d.status, d.state) (omega (arith, put i))
    go (inr d) = rw (d.status, d.state) (omega arith)
call-conserved s (Turn l out) b long = go (turn-cases s l out)
  where
    go : Turns s l out ⊎ (eqb (turn_status s out) 0 ≡ false) → waiting_at s b + 0 ≡ occurrences b (listed_by s (Turn l out)) + waiting_at (stepped s (Turn l out)) b
    go (inl t) = rw (turn-list s l out t.status, turn-state s l out t.status) (omega (arith, blocks-conserved (block_limit l) s b))
    go (inr t) = rw (refused-list s l out t, refused-state s l out t) (omega arith)
call-conserved s Report b long = unfold report_answer in omega arith

occurrences-append : (b : ℕ) (xs ys : List ℕ) → occurrences b (xs ++ ys) ≡ occurrences b xs + occurrences b ys
unfolding occurrences
occurrences-append b [] ys = omega arith
occurrences-append b (x ∷ xs) ys = omega (arith, occurrences-append b xs ys)

-- a history
calls-conserved : (s : BenchQueue) (calls : List Call) (b : ℕ) → length s.waiting ≡ 8 → waiting_at s b + deposited s calls b ≡ occurrences b (listed_all s calls) + waiting_at (after_calls s calls) b
unfolding deposited listed_all after_calls occurrences
calls-conserved s [] b long = omega arith
calls-conserved s (c ∷ cs) b long =
    omega
    (arith, call-conserved s c b long, calls-conserved (stepped s c) cs b (stepped-length s c ∙ long), occurrences-append b (listed_by s c) (listed_all (stepped s c) cs))

-- from a new state on, accepted deposits equal coded plus waiting, for each bench
pub conserved : (benches : ℕ) (calls : List Call) (b : ℕ) →
    deposited (new_answer benches).state calls b ≡ occurrences b (listed_all (new_answer benches).state calls) + waiting_at (after_calls (new_answer benches).state calls) b
conserved benches calls b =
    omega (arith, calls-conserved s calls b (ap length (new-waiting benches)), ap (λ (w : List ℕ). get_or w b 0) (new-waiting benches) ∙ none (dec_lt b 8))
  where
    s : BenchQueue
    s = (new_answer benches).state

    none : Dec (b < 8) → get_or (replicate {A = ℕ} 8 0) b 0 ≡ 0
    none (yes h) = get_or-replicate 8 b 0 0 h
    none (no h) = let o : length (replicate {A = ℕ} 8 0) ≤ b = omega arith in get_or-eq_default (replicate 8 0) 0 o
