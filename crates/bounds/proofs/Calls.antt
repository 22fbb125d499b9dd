-- What the calls of demand 3 leave, as the contract of `round_trip` states it. Assumes nothing.
use mathlib.Core.Path.{◌≡◌, refl, sym, ap, subst, ◌∙◌}
use mathlib.Core.Bool.{Bool, false}
use mathlib.Core.List.{List, [], ◌∷◌}
use Prim.Native.Nat.{ℕ}
use borrow.Author.Tests.{eqb-true}
use native.Mathlib.Omega.{arith}
use lib.Dec.{eqb, ltb→lt}
use Rattle.std.specs.Prelude.{Result, Ok, Err}
use lib.ListN.{length}
use lib.IntN.{ℤ}
use Rattle.integers.specs.Fits16.{Fits16}
use Rattle.lists.specs.Every.{Every}
use Rattle.lists.proofs.Tab.{length-tab}
use Rattle.refusals.specs.Refusals.{Test, ◌unless◌, ◌of◌, status, written, block_tests}
use Rattle.refusals.specs.declared.Refusal.{Refusal}
use Rattle.refusals.specs.Numbers.{Answer, number, status_of, told}
use Rattle.refusals.proofs.Numbers.{number-nonzero}
use Rattle.refusals.proofs.Refusals.{has, ◌then◌, Passed, kept, wrote, left, passed, passed-all}
use Rattle.forward.specs.Canonical.{Bytes, coefficients_at, coefficients, coefficients12bit, up_to}
use Rattle.stored_blocks.specs.Dequantize.{dequantized}
use Rattle.stored_blocks.specs.Stored.{same_blocks, same_tests, same_answer}
use Rattle.passes.specs.Passes.{eight}
use Rattle.block.specs.Block.{block, inverse_tests}
use Rattle.bounds.specs.Demand3.{products, decoded, Near}
use Rattle.bounds.specs.Calls.{round_trip_tests, compared_result, compared_answer, compared_answer12bit, Claimed, compare_tests12bit, Claimed12bit}
use Rattle.bounds.proofs.Alike.{alike-12bit}
use Rattle.bounds.proofs.Theorem.{demand-3}

pub length-coefficients : (centre : ℕ) (block quant : List ℕ) → length (coefficients_at centre block quant) ≡ 64
unfolding coefficients_at
length-coefficients centre block quant = length-tab 64 _

pub length-products : (block quant : List ℕ) → length (products block quant) ≡ 64
unfolding products dequantized
length-products block quant = length-tab 64 _

-- where no test fails, every length is 64
pub lengths : (a b q ca cb p c w d : ℕ) → status (round_trip_tests a b q ca cb p c w d) ≡ 0 →
    (a ≡ 64) × (b ≡ 64) × (q ≡ 64) × (ca ≡ 64) × (cb ≡ 64) × (p ≡ 64) × (c ≡ 64) × (w ≡ 64) × (d ≡ 64)
unfolding round_trip_tests
lengths a b q ca cb p c w d z =
    let t = passed-all (round_trip_tests a b q ca cb p c w d) tt z in
    let u = t.1.1.1 in
    let v = u.1.1.1 in (
      eqb-true _ _ t.0,
      eqb-true _ _ t.1.0,
      eqb-true _ _ t.1.1.0,
      eqb-true _ _ u.0,
      eqb-true _ _ u.1.0,
      eqb-true _ _ u.1.1.0,
      eqb-true _ _ v.0,
      eqb-true _ _ v.1.0,
      eqb-true _ _ v.1.1.0,
    )

-- ---- what a result says

told-status : (x : Result Bool Refusal) → status_of x ≡ (told false x).status
told-status (Ok t) = refl
told-status (Err e) = refl

-- a refusal's status is not 0
pub err-status : {A : Type 0} (x : Result A Refusal) (e : Refusal) → x ≡ Err e → status_of x ≡ 0 → ⊥
err-status x e is z = omega (arith, ltb→lt 0 (number e) (number-nonzero e), sym (ap status_of is) ∙ z)

-- a call whose tests pass refuses nothing
pub none-refused : (ts : List Test) → Passed ts → (e : Refusal) → number e ≡ status ts → ⊥
none-refused ts h e s = omega (arith, ltb→lt 0 (number e) (number-nonzero e), s ∙ sym (passed ts h))

-- ---- one call after the other, each with lengths that it takes

pub coded : (a quant : List ℕ) (out : List ℤ) {held : List ℤ} {r : ℕ} → length a ≡ 64 → length quant ≡ 64 → length out ≡ 64 →
    (r ≡ status (block_tests a quant out)) × (held ≡ written r (coefficients a quant) out) → held ≡ coefficients a quant
coded a quant out la lq lo = left _ _ _ (has la then has lq then has lo then tt)

pub multiplied : (a quant : List ℕ) (out : List ℤ) {cs held : List ℤ} {r : ℕ} → cs ≡ coefficients a quant → length quant ≡ 64 → length out ≡ 64 →
    (r ≡ status (block_tests cs quant out)) × (held ≡ written r (dequantized cs quant) out) → held ≡ products a quant
unfolding products
multiplied a quant out e lq lo h =
    left _ _ _ (has (ap length e ∙ length-coefficients 128 a quant) then has lq then has lo then tt) h ∙ ap (λ (z : List ℤ). dequantized z quant) e

pub inverted : (a quant : List ℕ) (out : List ℕ) {ps : List ℤ} {held : List ℕ} {r : ℕ} → ps ≡ products a quant → length out ≡ 64 →
    (r ≡ status (inverse_tests 64 ps out)) × (held ≡ written r (block eight ps) out) → held ≡ decoded a quant
unfolding decoded
inverted a quant out e lo h = left _ _ _ (has (ap length e ∙ length-products a quant) then has lo then tt) h ∙ ap (block eight) e

module _ (centre : ℕ) (a b quant : List ℕ) where
  pub compared : {ca cb : List ℤ} {r : Answer Bool} → ca ≡ coefficients_at centre a quant → cb ≡ coefficients_at centre b quant → r ≡ same_answer ca cb → r ≡ compared_result centre 0 a b quant
  unfolding compared_result
  compared ea eb e =
      e ∙ (λ i. same_answer (ea i) (eb i))
      ∙ ap (λ (s : ℕ). compared_result centre s a b quant) (sym (passed (same_tests (coefficients_at centre a quant) (coefficients_at centre b quant)) (has (length-coefficients centre a quant) then has (length-coefficients centre b quant) then tt)))

  -- a refused call has not compared
  not-compared : {s n : ℕ} → s ≡ n → (s ≡ 0 → ⊥) → record { status = s; value = false } ≡ compared_result centre n a b quant
  unfolding compared_result
  not-compared {s} e h =
      (λ i. record { status = s; value = kept (same_blocks (coefficients_at centre a quant) (coefficients_at centre b quant)) false h i }) ∙ ap (λ (m : ℕ). compared_result centre m a b quant) e

  compared-not : (x : Result Bool Refusal) {n : ℕ} → status_of x ≡ n → (status_of x ≡ 0 → ⊥) → told false x ≡ compared_result centre n a b quant
  compared-not (Ok t) e h = absurd (h refl)
  compared-not (Err d) e h = not-compared e h

  compared_at : {n : ℕ} (x : Result Bool Refusal) → n ≡ 0 → told false x ≡ compared_result centre 0 a b quant → (told false x ≡ compared_result centre n a b quant) × (status_of x ≡ 0)
  unfolding compared_result
  compared_at x z er = (er ∙ ap (λ (m : ℕ). compared_result centre m a b quant) (sym z), told-status x ∙ ap (λ (y : Answer Bool). y.status) er)

-- ---- the claim

pub claimed : (quant a b : List ℕ) {ca cb ps qs : List ℤ} {cs ds : List ℕ} → Bytes quant → Bytes a → Bytes b → ca ≡ coefficients a quant → cb ≡ coefficients b quant →
    ps ≡ products a quant → cs ≡ decoded a quant → qs ≡ products a quant → ds ≡ decoded a quant → Claimed quant a b ca cb ps cs qs ds
claimed quant a b q ha hb eca ecb ep ec eq ed =
    let theorem = demand-3 quant q in
    let back = theorem.1 a ha in
    (λ e. theorem.0 a b ha hb (sym eca ∙ e ∙ ecb), (subst (Every Fits16) (sym ep) back.0, subst (Near quant a) (sym ec) back.1), (subst (Every Fits16) (sym eq) back.0, subst (Near quant a) (sym ed) back.1))

-- ---- what the call leaves, as its contract states it: oca .. od are what the outputs held before, n the status by the tests

module _ (a b quant : List ℕ) (oca ocb op : List ℤ) (oc : List ℕ) (oq : List ℤ) (od : List ℕ) (n : ℕ) where
  abbrev Left : Result Bool Refusal → List ℤ → List ℤ → List ℤ → List ℕ → List ℤ → List ℕ → Type 0
  Left r ca cb p c q d =
      (told false r ≡ compared_answer n a b quant)
      × ((ca ≡ written (status_of r) (coefficients a quant) oca)
      × ((cb ≡ written (status_of r) (coefficients b quant) ocb)
      × ((p ≡ written (status_of r) (products a quant) op)
      × ((c ≡ written (status_of r) (decoded a quant) oc)
      × ((q ≡ written (status_of r) (products a quant) oq)
      × ((d ≡ written (status_of r) (decoded a quant) od) × (status_of r ≡ 0 → Claimed quant a b ca cb p c q d)))))))

  pub all-refused : (r : Result Bool Refusal) → status_of r ≡ n → (status_of r ≡ 0 → ⊥) → Left r oca ocb op oc oq od
  all-refused r e h = (
    compared-not 128 a b quant r e h,
    (kept _ oca h, (kept _ ocb h, (kept _ op h, (kept _ oc h, (kept _ oq h, (kept _ od h, λ z. absurd (h z))))))),
  )

  pub all_done : (r : Result Bool Refusal) {ca cb p q : List ℤ} {c d : List ℕ} → n ≡ 0 → Bytes quant → Bytes a → Bytes b → told false r ≡ compared_answer 0 a b quant →
      ca ≡ coefficients a quant → cb ≡ coefficients b quant → p ≡ products a quant → c ≡ decoded a quant → q ≡ products a quant → d ≡ decoded a quant → Left r ca cb p c q d
  all_done r z hq ha hb er eca ecb ep ec eq ed =
      let answer = compared_at 128 a b quant r z er in
      let zero = answer.1 in (
        answer.0,
        (
          wrote _ oca zero eca,
          (
            wrote _ ocb zero ecb,
            (wrote _ op zero ep, (wrote _ oc zero ec, (wrote _ oq zero eq, (wrote _ od zero ed, λ _. claimed quant a b hq ha hb eca ecb ep ec eq ed)))),
          ),
        ),
      )

-- ---- two 12-bit blocks

-- where no test fails, each block is one that the entry takes, by the lengths of the table and of the output
pub taken-12bit : (a b : List ℕ) (q ca cb : ℕ) → status (compare_tests12bit a b q ca cb) ≡ 0 →
    Passed (1 unless a of 64 ∷ 2 unless eqb q 64 ∷ 3 unless eqb ca 64 ∷ 12 unless up_to 4095 a ∷ [])
    × Passed (1 unless b of 64 ∷ 2 unless eqb q 64 ∷ 3 unless eqb cb 64 ∷ 12 unless up_to 4095 b ∷ [])
unfolding compare_tests12bit
taken-12bit a b q ca cb z =
    let t = passed-all (compare_tests12bit a b q ca cb) tt z in
    let u = t.1.1.1 in
    (t.0 then t.1.1.0 then u.0 then u.1.1.0 then tt, t.1.0 then t.1.1.0 then u.1.0 then u.1.1.1.0 then tt)

module _ (a b quant : List ℕ) (oca ocb : List ℤ) where
  abbrev Tests : List Test
  Tests = compare_tests12bit a b (length quant) (length oca) (length ocb)

  abbrev Left12bit : Result Bool Refusal → List ℤ → List ℤ → Type 0
  Left12bit r ca cb =
      (told false r ≡ compared_answer12bit (status Tests) a b quant)
      × ((ca ≡ written (status_of r) (coefficients12bit a quant) oca)
      × ((cb ≡ written (status_of r) (coefficients12bit b quant) ocb) × (status_of r ≡ 0 → Claimed12bit quant a b ca cb)))

  pub all-refused-12bit : (r : Result Bool Refusal) → status_of r ≡ status Tests → (status_of r ≡ 0 → ⊥) → Left12bit r oca ocb
  all-refused-12bit r e h = (compared-not 2048 a b quant r e h, (kept _ oca h, (kept _ ocb h, λ z. absurd (h z))))

  pub all-done-12bit : (r : Result Bool Refusal) {ca cb : List ℤ} → status Tests ≡ 0 → told false r ≡ compared_result 2048 0 a b quant →
      ca ≡ coefficients12bit a quant → cb ≡ coefficients12bit b quant → Left12bit r ca cb
  all-done-12bit r z er eca ecb =
      let answer = compared_at 2048 a b quant r z er in
      (answer.0, (wrote _ oca answer.1 eca, (wrote _ ocb answer.1 ecb, λ _ f. alike-12bit quant a b (sym eca ∙ f ∙ ecb))))
