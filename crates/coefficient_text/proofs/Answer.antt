-- The answers of `coefficient_text`, as its contract states them.
-- Assumes nothing.
use mathlib.Core.Path.{◌≡◌, refl, sym, ap, ◌∙◌}
use mathlib.Core.Bool.{true, false}
use mathlib.Core.List.{List, ◌++◌}
use Prim.Native.Nat.{ℕ, ◌-◌, ◌≤◌}
use native.Mathlib.Nat.{zero-add}
use native.Mathlib.Omega.{arith}
use lib.ListN.{length, take, drop, replicate, length-append, length-drop}
use lib.Seq.{take_all}
use lib.IntN.{ℤ, pos}
use lib.Dec.{ltb→lt}
use Rattle.refusals.specs.declared.Refusal.{Refusal}
use Rattle.refusals.specs.Numbers.{Answer, number}
use Rattle.refusals.proofs.Numbers.{number-nonzero}
use Rattle.refusals.specs.Refusals.{status, written, block_tests}
use Rattle.refusals.proofs.Refusals.{has, ◌then◌, accepted, answered, left, passed}
use Rattle.forward.specs.Canonical.{coefficients}
use Rattle.coefficient_text.specs.Stores.{Wrote}
use Rattle.coefficient_text.specs.Lines.{numbers}
use Rattle.coefficient_text.specs.Text.{refused_text, text}
use Rattle.coefficient_text.specs.Text as input-text
use Rattle.coefficient_text.specs.Answer.{text_tests, printed, placed}
use Rattle.coefficient_text.proofs.Stores.{wrote-all}

-- what the samples, the part of the input from place 11 on, give
pub coded : (input : List ℕ) {r : ℕ} {cs : List ℤ} → length input ≡ 75 →
    (let samples = take (length input - 11) (drop 11 input) in
    (r ≡ status (block_tests {B = ℕ} samples (replicate 64 1) (replicate 64 (pos 0)))) × (cs ≡ written r (coefficients samples (replicate 64 1)) (replicate 64 (pos 0))))
    → cs ≡ coefficients (drop 11 input) (replicate 64 1)
coded input h e =
    let samples : length (drop 11 input) ≡ 64 = simp length-drop (omega arith) in
    let all = take_all (length input - 11) (drop 11 input) (omega arith) in
    left _ _ _ (has (ap (λ (l : List ℕ). length l) all ∙ samples) then refl then refl then tt) e ∙ ap (λ (l : List ℕ). coefficients l (replicate 64 1)) all

-- so the call refuses nothing
pub not-refused : (input : List ℕ) (e : Refusal) → length input ≡ 75 →
    number e ≡ status (block_tests {B = ℕ} (take (length input - 11) (drop 11 input)) (replicate 64 1) (replicate 64 (pos 0))) → ⊥
not-refused input e h s =
    let samples : length (drop 11 input) ≡ 64 = simp length-drop (omega arith) in
    let all = take_all (length input - 11) (drop 11 input) (omega arith) in
    let none = s ∙ sym (passed (block_tests {B = ℕ} _ (replicate 64 1) (replicate 64 (pos 0))) (has (ap (λ (l : List ℕ). length l) all ∙ samples) then refl then refl then tt)) in
    omega (arith, ltb→lt 0 (number e) (number-nonzero e))

module _ (input out : List ℕ) where
  abbrev answer : ℕ → ℕ → Answer ℕ
  answer s n = record { status = s; value = n }

  -- the clauses of the contract
  abbrev Answers : ℕ → ℕ → List ℕ → Type 0
  Answers s n held = (answer s n ≡ printed input out) × ((held ≡ written s (placed input out) out) × (n ≤ length held))

  answers : {s n : ℕ} → (s ≡ status (text_tests out)) × (n ≡ written s (length (text input)) 0) → answer s n ≡ printed input out
  answers = answered (length (text input)) 0 (text_tests out) answer

  refused-text : input-text.accepted input ≡ false → refused_text ≡ text input
  unfolding text
  refused-text a = simp a refl

  numbers-text : input-text.accepted input ≡ true → numbers (coefficients (drop 11 input) (replicate 64 1)) 64 ≡ text input
  unfolding text
  numbers-text a = simp a refl

  module _ (h : length out ≡ 448) where
    -- a text t at the start of the output
    texted : {t : List ℕ} {n : ℕ} {held : List ℕ} → t ≡ text input → n ≡ length t → held ≡ t ++ drop (length t) out → n ≤ length held → Answers 0 n held
    unfolding placed
    texted {t} e c f b = (
      answers (accepted _ _ _ (has h then tt) (c ∙ ap length e)),
      ((accepted (placed input out) out (text_tests out) (has h then tt) (f ∙ ap (λ (l : List ℕ). l ++ drop (length l) out) e)).1, b),
    )

    pub refused-input : {n : ℕ} {held : List ℕ} → input-text.accepted input ≡ false → n ≡ length refused_text → held ≡ refused_text ++ drop (length refused_text) out → Answers 0 n held
    refused-input a e f = texted (refused-text a) e f (omega (arith, e, length-append refused_text (drop (length refused_text) out), ap length f))

    pub done : {cs : List ℤ} {n : ℕ} {held : List ℕ} → input-text.accepted input ≡ true → cs ≡ coefficients (drop 11 input) (replicate 64 1) → Wrote 448 out 0 (numbers cs 64) held n → Answers 0 n held
    done a e w = texted (ap (λ l. numbers l 64) e ∙ numbers-text a) (w.place ∙ zero-add _) (wrote-all w (omega arith)) (omega (arith, h, w.short, w.long))
