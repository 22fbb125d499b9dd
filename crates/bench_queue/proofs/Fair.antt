-- Document 02, card 11: "a waiting bench is served within as many coded blocks as there are benches". Assumes nothing.
use mathlib.Core.Path.{◌≡◌, refl, sym, ap, subst, ◌∙◌}
use mathlib.Core.Bool.{true, false, cond}
use mathlib.Core.List.{List, [], ◌∷◌, ◌++◌}
use mathlib.Core.Logic.{◌⊎◌, inl, inr}
use Prim.Native.Nat.{ℕ, zero, suc, ◌+◌, ◌-◌, ◌≤◌, ◌<◌}
use native.Mathlib.Decide.{ℕ_discrete}
use native.Mathlib.Omega.{arith}
use lib.Dec.{leb, ltb, eqb, leb→le}
use mir.Facts.{and_yes}
use lib.ListN.{length, get_or, replicate, length-append, get_or-append, get_or-replicate}
use lib.Seq.{get_or-set_other, get_or-append-add}
use Rattle.refusals.proofs.Refusals.{passed-all, wrote}
use Rattle.bench_queue.specs.State.{waiting_at, most_waiting, in_range, queued, served}
use Rattle.bench_queue.specs.Calls.{fresh, zero_record, new_tests, new_answer, deposit_answer, next_bench, coded_benches, after_blocks, block_limit, report_answer}
use Rattle.bench_queue.specs.History.{Call, stepped, after_calls, listed_by, listed_all, ServedOrWaits}
use Rattle.bench_queue.specs.History.Call.{Deposit, Turn, Report}
use Rattle.bench_queue.specs.declared.BenchQueue.{BenchQueue}
use Rattle.bench_queue.proofs.Range.{Ranged, truth, ranged, in-range}
use Rattle.bench_queue.proofs.Next.{distance, distance-bounds, Toward, next-toward}
use Rattle.bench_queue.proofs.Blocks.{served-ranged, after_more, coded-more}
use Rattle.bench_queue.proofs.Accepted.{Deposits, Refuses, deposit-cases, turn_status, Turns, turn-cases, turn-state, turn-list, refused-state, refused-list, set-above, stepped-ranged, stepped-benches}

-- bench b stands at one of the first d places of a list
abbrev pub Stands : ℕ → ℕ → List ℕ → Type 0
Stands d b list = (i : ℕ) × (i < d) × (i < length list) × (get_or list i 0 ≡ b)

-- bench b waits and is at most d blocks away
pub record Near (s : BenchQueue) (b d : ℕ) : Type 0 where
  pub waits : 0 < waiting_at s b
  pub some : 1 ≤ distance s.benches s.last b
  pub near : distance s.benches s.last b ≤ d

-- after the blocks of a list: bench b was served within d blocks, or waits and is so many nearer
abbrev Reached : ℕ → ℕ → List ℕ → BenchQueue → Type 0
Reached d b list s = Stands d b list ⊎ ((length list ≤ d) × Near s b (d - length list))

near : (s : BenchQueue) (b d : ℕ) → Ranged s → b < s.benches → 0 < waiting_at s b → distance s.benches s.last b ≤ d → Near s b d
near s b d r l w h = record { waits = w; some = (distance-bounds s.benches s.last b r.inside l).0; near = h }

-- ---- one turn
blocks-fair : (m : ℕ) (s : BenchQueue) (b d : ℕ) → Ranged s → b < s.benches → Near s b d → Reached d b (coded_benches m s) (after_blocks m s)
blocks-fair zero s b d r l n = unfold coded_benches after_blocks in inr (omega arith, record { waits = n.waits; some = n.some; near = omega (arith, n.near) })
blocks-fair (suc m) s b d r l n = go (ℕ_discrete next b) (λ e q. blocks-fair m (served s next) b (d - 1) (served-ranged s next r t.bench) l' q)
  where
    next : ℕ
    next = next_bench s

    t : Toward s.benches s.last b next
    t = next-toward s b n.waits r.inside l

    l' : b < (served s next).benches
    l' = unfold served in l

    ahead : (next ≡ b → ⊥) → Near (served s next) b (d - 1)
    ahead e = unfold served in record { waits = rw (get_or-set_other s.waiting next b (waiting_at s next - 1) 0 (λ q. e (sym q))) n.waits; some = (distance-bounds s.benches next b t.bench l).0; near = by t.closer }
      where
        by : (next ≡ b) ⊎ (distance s.benches next b < distance s.benches s.last b) → distance s.benches next b ≤ d - 1
        by (inl q) = absurd (e q)
        by (inr q) = omega (arith, n.near)

    on : Reached (d - 1) b (coded_benches m (served s next)) (after_blocks m (served s next)) → Reached d b (next ∷ coded_benches m (served s next)) (after_blocks m (served s next))
    on (inl p) = inl (suc p.0, omega (arith, p.1), omega (arith, p.2), p.3)
    on (inr p) = inr (omega (arith, p.0, n.some, n.near), record { waits = p.1.waits; some = p.1.some; near = omega (arith, p.1.near) })

    go : Dec (next ≡ b) → ((next ≡ b → ⊥) → Near (served s next) b (d - 1) → Reached (d - 1) b (coded_benches m (served s next)) (after_blocks m (served s next))) → Reached d b (coded_benches (suc m) s) (after_blocks (suc m) s)
    go (yes e) h = rw (coded-more s (suc m) m refl t.bench) (inl (0, omega (arith, n.some, n.near), omega arith, e))
    go (no e) h = rw (coded-more s (suc m) m refl t.bench, after_more s (suc m) m refl t.bench) (on (h e (ahead e)))

-- ---- one call
kept : (s s' : BenchQueue) (b d : ℕ) → Near s b d → s'.benches ≡ s.benches → s'.last ≡ s.last → waiting_at s b ≤ waiting_at s' b → Reached d b [] s'
kept s s' b d n e f w =
    let same : distance s'.benches s'.last b ≡ distance s.benches s.last b = λ i. distance (e i) (f i) b in
    inr (omega arith, record { waits = omega (arith, n.waits); some = omega (arith, n.some); near = omega (arith, n.near) })

call-fair : (s : BenchQueue) (c : Call) (b d : ℕ) → Ranged s → b < s.benches → Near s b d → Reached d b (listed_by s c) (stepped s c)
unfolding stepped listed_by
call-fair s (Deposit a k) b d r l n = go (deposit-cases s a k)
  where
    more : Reached d b [] (queued s a k)
    more = kept s (queued s a k) b d n (unfold queued in refl) (unfold queued in refl) (unfold queued in set-above s.waiting a (waiting_at s a + k) b (omega arith))

    go : Deposits s a k ⊎ Refuses s a k → Reached d b [] (deposit_answer s a k).state
    go (inl q) = rw q.state more
    go (inr q) = rw q.state (kept s s b d n refl refl (omega arith))
call-fair s (Turn k out) b d r l n = go (turn-cases s k out)
  where
    go : Turns s k out ⊎ (eqb (turn_status s out) 0 ≡ false) → Reached d b (listed_by s (Turn k out)) (stepped s (Turn k out))
    go (inl q) = rw (turn-list s k out q.status, turn-state s k out q.status) (blocks-fair (block_limit k) s b d r l n)
    go (inr q) = rw (refused-list s k out q, refused-state s k out q) (kept s s b d n refl refl (omega arith))
call-fair s Report b d r l n = unfold report_answer in kept s s b d n refl refl (omega arith)

-- ---- a history
calls-fair : (calls : List Call) (s : BenchQueue) (b d : ℕ) → Ranged s → b < s.benches → Near s b d → Reached d b (listed_all s calls) (after_calls s calls)
unfolding listed_all after_calls
calls-fair [] s b d r l n = kept s s b d n refl refl (omega arith)
calls-fair (c ∷ cs) s b d r l n =
    go (call-fair s c b d r l n) (λ n'. calls-fair cs (stepped s c) b (d - length (listed_by s c)) (stepped-ranged s c r) (rw (stepped-benches s c) l) n')
  where
    xs : List ℕ
    xs = listed_by s c

    ys : List ℕ
    ys = listed_all (stepped s c) cs

    s' : BenchQueue
    s' = after_calls (stepped s c) cs

    late : length xs ≤ d → Reached (d - length xs) b ys s' → Reached d b (xs ++ ys) s'
    late h (inl p) = inl (length xs + p.0, omega (arith, p.1), omega (arith, p.2, length-append xs ys), get_or-append-add xs ys p.0 0 ∙ p.3)
    late h (inr p) = inr (omega (arith, p.0, length-append xs ys), record { waits = p.1.waits; some = p.1.some; near = omega (arith, p.1.near, length-append xs ys) })

    go : Reached d b xs (stepped s c) → (Near (stepped s c) b (d - length xs) → Reached (d - length xs) b ys s') → Reached d b (xs ++ ys) s'
    go (inl p) h = inl (p.0, p.1, omega (arith, p.2, length-append xs ys), get_or-append xs ys 0 p.0 p.2 ∙ p.3)
    go (inr p) h = late p.0 (h p.1)

-- whatever calls follow, and however the blocks fall into turns, a bench that waits is served
-- within as many coded blocks as there are benches, or fewer are coded and it waits still
pub served-or-waits : (s : BenchQueue) (calls : List Call) (b : ℕ) → in_range s ≡ true → b < s.benches → 0 < waiting_at s b → ServedOrWaits s.benches b s calls
served-or-waits s calls b e l w = go (calls-fair calls s b s.benches r l (near s b s.benches r l w (distance-bounds s.benches s.last b r.inside l).1))
  where
    r : Ranged s
    r = ranged s e

    go : Reached s.benches b (listed_all s calls) (after_calls s calls) → ServedOrWaits s.benches b s calls
    go (inl p) = inl (record { place = p.0; within = p.1; listed = p.2; bench = p.3 })
    go (inr p) = inr (record { fewer = omega (arith, p.1.some, p.1.near); waits = p.1.waits })

-- so once as many blocks are coded as there are benches, the bench that waited stands among the
-- first that many
pub fair : (s : BenchQueue) (calls : List Call) (b : ℕ) → in_range s ≡ true → b < s.benches → 0 < waiting_at s b → s.benches ≤ length (listed_all s calls) → Stands s.benches b (listed_all s calls)
fair s calls b e l w long = go (served-or-waits s calls b e l w)
  where
    go : ServedOrWaits s.benches b s calls → Stands s.benches b (listed_all s calls)
    go (inl p) = (p.place, p.within, p.listed, p.bench)
    go (inr p) = absurd (omega (arith, p.fewer))

-- ---- the states that a new state leads to

-- an accepted new state
new-cases : (n : ℕ) → (new_answer n).status ≡ 0 → (1 ≤ n) × (n ≤ 8) × ((new_answer n).state ≡ fresh n)
unfolding new_answer
new-cases n e =
    let both = and_yes (leb 1 n) (leb n 8) (truth (passed-all (new_tests n) tt e).0) in
    (leb→le 1 n both.0, leb→le n 8 both.1, sym (wrote (fresh n) zero_record e refl))

pub new-ranged : (n : ℕ) → (new_answer n).status ≡ 0 → Ranged (new_answer n).state
unfolding fresh most_waiting
new-ranged n e =
    let h = new-cases n e in
    rw h.2 (record { some = h.0; few = h.1; inside = omega (arith, h.0); counts = count })
  where
    count : (b : ℕ) → b < 8 → get_or (replicate {A = ℕ} 8 0) b 0 ≤ cond (ltb b n) 65535 0
    count b h = rw (get_or-replicate {A = ℕ} 8 b 0 0 h) (omega arith)

new-benches : (n : ℕ) → (new_answer n).status ≡ 0 → (new_answer n).state.benches ≡ n
unfolding fresh
new-benches n e = ap (λ (s : BenchQueue). s.benches) (new-cases n e).2

pub calls-ranged : (calls : List Call) (s : BenchQueue) → Ranged s → Ranged (after_calls s calls)
unfolding after_calls
calls-ranged [] s r = r
calls-ranged (c ∷ cs) s r = calls-ranged cs (stepped s c) (stepped-ranged s c r)

pub calls-benches : (calls : List Call) (s : BenchQueue) → (after_calls s calls).benches ≡ s.benches
unfolding after_calls
calls-benches [] s = refl
calls-benches (c ∷ cs) s = calls-benches cs (stepped s c) ∙ stepped-benches s c

-- in a history from a new state on, cut anywhere
pub fair-from-new : (benches : ℕ) → (new_answer benches).status ≡ 0 → (before after : List Call) (b : ℕ)
    → b < benches → 0 < waiting_at (after_calls (new_answer benches).state before) b
    → benches ≤ length (listed_all (after_calls (new_answer benches).state before) after)
    → Stands benches b (listed_all (after_calls (new_answer benches).state before) after)
fair-from-new n e before after b l w long = subst (λ (k : ℕ). Stands k b list) count (fair s after b range (subst (λ (k : ℕ). b < k) (sym count) l) w (subst (λ (k : ℕ). k ≤ length list) (sym count) long))
  where
    start : BenchQueue
    start = (new_answer n).state

    s : BenchQueue
    s = after_calls start before

    list : List ℕ
    list = listed_all s after

    range : in_range s ≡ true
    range = in-range s (calls-ranged before start (new-ranged n e))

    count : s.benches ≡ n
    count = calls-benches before start ∙ new-benches n e
