-- What the nine 8-bit inverses return and leave, their counts in a lent place. Assumes nothing.
use mathlib.Core.Path.{◌≡◌, refl, sym, ap, ◌∙◌}
use mathlib.Core.List.{List, [], ◌∷◌, ◌++◌}
use Prim.Native.Nat.{ℕ}
use lib.Dec.{T}
use lib.ListN.{length, set}
use Rattle.refusals.specs.Refusals.{Test, status, written}
use Rattle.refusals.specs.declared.Refusal.{Refusal}
use Rattle.refusals.specs.Numbers.{Answer, number}
use Rattle.refusals.proofs.Refusals.{has, lacks, kept, wrote, numbered}
use Rattle.block.specs.Clamped.{no_counts, clamped_answer}
use Rattle.block.specs.declared.Clamped.{Clamped}
use Rattle.jpeg_block.specs.Counts.{counts_tests, counts_left}
use Rattle.jpeg_block.proofs.Places.{two_left, first-passed}
use Rattle.jpeg_block.proofs.Handed.{nonzero}

-- ---- the place

module _ (raised lowered : ℕ) (held : List ℕ) where
  pub two-left : length held ≡ 2 → set (set held 0 raised) 1 lowered ≡ counts_left raised lowered held
  unfolding counts_left
  two-left h = simp (has h) (two_left held raised lowered h)

  pub none_left : (length held ≡ 2 → ⊥) → held ≡ counts_left raised lowered held
  unfolding counts_left
  none_left h = simp (lacks h) refl

-- ---- the call

module _ (samples output counts : List ℕ) where
  -- where any of the tests fails
  pub call-refused : (us : List Test) (left : List ℕ) {s : ℕ} → s ≡ status us → (s ≡ 0 → ⊥) → (s ≡ status us) × ((output ≡ written s samples output) × (counts ≡ written s left counts))
  call-refused us left tested h = (tested, (kept _ output h, kept _ counts h))

  -- the same of a refusal's number
  pub call-stopped : (us : List Test) (left : List ℕ) (e : Refusal) {s : ℕ} → s ≡ number e → number e ≡ status us → (s ≡ status us) × ((output ≡ written s samples output) × (counts ≡ written s left counts))
  call-stopped us left e n tested = call-refused us left (n ∙ tested) (λ z. nonzero e (sym n ∙ z))

  -- where none fails: of an entry with the tests ts, which answers `clamped_answer` and leaves the samples
  pub call-made : (ts : List Test) → T (numbered ts) → (raised lowered : ℕ) {s : ℕ} {answer : Answer Clamped} {out place : List ℕ} → s ≡ status (ts ++ counts_tests (length counts)) → s ≡ 0 →
      (answer ≡ clamped_answer ts raised lowered) × (out ≡ written answer.status samples output) → place ≡ counts_left answer.value.raised answer.value.lowered counts →
      (0 ≡ status (ts ++ counts_tests (length counts))) × ((out ≡ written 0 samples output) × (place ≡ written 0 (counts_left raised lowered counts) counts))
  call-made ts numbers raised lowered {answer = answer} tested e f g =
      let none : 0 ≡ status ts = first-passed ts (counts_tests (length counts)) numbers (sym e ∙ tested) in
      let made : answer ≡ record { status = 0; value = record { raised = raised; lowered = lowered } } =
      f.0 ∙ sym (λ i. record { status = none i; value = wrote (record { raised = raised; lowered = lowered }) no_counts (sym none) refl i }) in (
        sym e ∙ tested,
        (
          f.1 ∙ ap (λ (a : Answer Clamped). written a.status samples output) made,
          wrote _ counts refl (g ∙ ap (λ (a : Answer Clamped). counts_left a.value.raised a.value.lowered counts) made),
        ),
      )
