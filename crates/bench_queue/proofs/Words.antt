-- Document 02, card 11: what the words of a turn mean. Assumes nothing.
use mathlib.Core.Path.{◌≡◌, refl, sym, ap, subst, ◌∙◌}
use mathlib.Core.Bool.{Bool, true, false, cond}
use mathlib.Core.List.{List, [], ◌∷◌, ◌++◌}
use mathlib.Core.Logic.{◌⊎◌, inl, inr}
use Prim.Native.Nat.{ℕ, zero, suc, ◌+◌, ◌-◌, ◌≤◌, ◌<◌, min}
use native.Mathlib.Omega.{arith}
use borrow.Author.Tests.{ltb-true, ltb-false}
use lib.Dec.{ltb, eqb}
use lib.ListN.{length, get_or, drop}
use lib.Seq.{get_or-append-add, get_or-drop}
use Rattle.std.specs.Prelude.{Option, Some, None}
use Rattle.refusals.specs.Refusals.{written}
use Rattle.bench_queue.specs.State.{waiting_at, nobody_waits, served}
use Rattle.bench_queue.specs.Calls.{next_bench, coded_benches, after_blocks, block_limit, word_of, turn_answer, overwritten, turn_output}
use Rattle.bench_queue.specs.declared.BenchQueue.{BenchQueue}
use Rattle.bench_queue.specs.declared.Word.{Word}
use Rattle.bench_queue.specs.declared.Word.TheVariants.{Spent, Idle}
use Rattle.bench_queue.proofs.Range.{Ranged}
use Rattle.bench_queue.proofs.Next.{nobody-waits, nobody-at}
use Rattle.bench_queue.proofs.Blocks.{served-ranged}
use Rattle.bench_queue.proofs.Accepted.{turn_status, Turns, turn-cases}

-- at most m blocks are coded
pub coded-block_limit : (m : ℕ) (s : BenchQueue) → length (coded_benches m s) ≤ m
unfolding coded_benches
coded-block_limit zero s = omega arith
coded-block_limit (suc m) s = go (ltb (next_bench s) s.benches) (coded-block_limit m (served s (next_bench s)))
  where
    go : (t : Bool) → length (coded_benches m (served s (next_bench s))) ≤ m → length (cond t (next_bench s ∷ coded_benches m (served s (next_bench s))) []) ≤ suc m
    go true h = omega arith
    go false h = omega arith

-- exactly m, unless nobody waits in the end
pub spent-coded : (m : ℕ) (s : BenchQueue) → Ranged s → nobody_waits (after_blocks m s) ≡ false → length (coded_benches m s) ≡ m
unfolding coded_benches after_blocks
spent-coded zero s r e = refl
spent-coded (suc m) s r e = go (ltb (next_bench s) s.benches) refl (λ h. spent-coded m (served s (next_bench s)) (served-ranged s (next_bench s) r h)) e
  where
    go : (t : Bool) → ltb (next_bench s) s.benches ≡ t
        → (next_bench s < s.benches → nobody_waits (after_blocks m (served s (next_bench s))) ≡ false → length (coded_benches m (served s (next_bench s))) ≡ m)
        → nobody_waits (cond t (after_blocks m (served s (next_bench s))) s) ≡ false
        → length (cond t (next_bench s ∷ coded_benches m (served s (next_bench s))) []) ≡ suc m
    go true t h f = ap suc (h (ltb-true _ _ t) f)
    go false t h f = let no : true ≡ false = sym (nobody-waits s r (ltb-false _ _ t)) ∙ f in let z : ◌≡◌ {A = ℕ} 0 1 = cc in absurd (omega arith)

-- "Every accepted turn reports one word": "idle" exactly when nobody waits after it, also where both hold, and else "spent"
pub accepted-word : (s : BenchQueue) (l : ℕ) (out : List ℕ) → (turn_answer s l out).status ≡ 0 → (turn_answer s l out).word ≡ Some (cond (nobody_waits (turn_answer s l out).state) Idle Spent)
unfolding turn_answer written word_of
accepted-word s l out e = simp e

-- "a refused deposit or turn gives back the state it was given, the turn with neither word"
pub refused-turn : (s : BenchQueue) (l : ℕ) (out : List ℕ) → eqb (turn_answer s l out).status 0 ≡ false → ((turn_answer s l out).word ≡ None) × ((turn_answer s l out).state ≡ s) × ((turn_answer s l out).listed ≡ 0)
unfolding turn_answer written
refused-turn s l out e = simp e (refl, refl, refl)

-- "spent" only after coding exactly L blocks, and then somebody waits
pub spent : (s : BenchQueue) (l : ℕ) (out : List ℕ) → (turn_answer s l out).word ≡ Some Spent → ((turn_answer s l out).status ≡ 0) × ((turn_answer s l out).listed ≡ min l 4096) × (nobody_waits (turn_answer s l out).state ≡ false)
unfolding turn_answer written word_of block_limit
spent s l out e = go (turn-cases s l out)
  where
    m : ℕ
    m = min l 4096

    word : (t : Bool) → ◌≡◌ {A = Option Word} (Some (cond t Idle Spent)) (Some Spent) → t ≡ false
    word true f = let z : ◌≡◌ {A = ℕ} 0 1 = cc in absurd (omega arith)
    word false f = refl

    go : Turns s l out ⊎ (eqb (turn_status s out) 0 ≡ false) → ((turn_answer s l out).status ≡ 0) × ((turn_answer s l out).listed ≡ m) × (nobody_waits (turn_answer s l out).state ≡ false)
    go (inl t) =
        let some : nobody_waits (after_blocks m s) ≡ false = word _ (rw t.status at e) in
        simp t.status (refl, spent-coded m s t.range some, some)
    go (inr t) = let no = rw t at e in let z : ◌≡◌ {A = ℕ} 0 1 = cc in absurd (omega arith)

-- "idle" only when nobody waits
pub idle : (s : BenchQueue) (l : ℕ) (out : List ℕ) → (turn_answer s l out).word ≡ Some Idle → ((turn_answer s l out).status ≡ 0) × ((b : ℕ) → b < 8 → waiting_at (turn_answer s l out).state b ≡ 0)
unfolding turn_answer written word_of
idle s l out e = go (turn-cases s l out)
  where
    word : (t : Bool) → ◌≡◌ {A = Option Word} (Some (cond t Idle Spent)) (Some Idle) → t ≡ true
    word true f = refl
    word false f = let z : ◌≡◌ {A = ℕ} 0 1 = cc in absurd (omega arith)

    go : Turns s l out ⊎ (eqb (turn_status s out) 0 ≡ false) → ((turn_answer s l out).status ≡ 0) × ((b : ℕ) → b < 8 → waiting_at (turn_answer s l out).state b ≡ 0)
    go (inl t) =
        let none : nobody_waits (after_blocks (block_limit l) s) ≡ true = word _ (rw t.status at e) in
        simp t.status (refl, nobody-at (after_blocks (block_limit l) s) none)
    go (inr t) = let no = rw t at e in let z : ◌≡◌ {A = ℕ} 0 1 = cc in absurd (omega arith)

-- "and writes no other place"
pub other-places : (s : BenchQueue) (l : ℕ) (out : List ℕ) (i : ℕ) → (turn_answer s l out).listed ≤ i → get_or (turn_output s l out) i 0 ≡ get_or out i 0
unfolding turn_answer turn_output written overwritten
other-places s l out i h = go (eqb (turn_status s out) 0) h
  where
    list : List ℕ
    list = coded_benches (block_limit l) s

    go : (t : Bool) → cond t (length list) 0 ≤ i → get_or (cond t (list ++ drop (length list) out) out) i 0 ≡ get_or out i 0
    go true b =
        let e : length list + (i - length list) ≡ i = omega arith in
        subst (λ (k : ℕ). get_or (list ++ drop (length list) out) k 0 ≡ get_or out k 0) e
        (get_or-append-add list (drop (length list) out) (i - length list) 0 ∙ get_or-drop (length list) out (i - length list) 0)
    go false b = refl
