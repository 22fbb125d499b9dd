-- The record of a block, by its coefficients.
-- Assumes nothing.
use Rattle.std.specs.Prelude.{◌≡◌, ℕ, ◌<◌, ◌≤◌, Bool, true, false, cond, eqb, List, get_or, ℤ, pos}
use mathlib.Core.Path.{refl, ap, ◌∙◌}
use native.Mathlib.Omega.{arith}
use borrow.Author.Tests.{eqb-false, ne_eqb}
use Rattle.lists.specs.Tab.{tab}
use Rattle.lists.proofs.Tab.{get_d-tab, tab-ext}
use Rattle.zigzag.specs.Zigzag.{zigzag_order}
use Rattle.guarded_quantizer.specs.declared.QuantizedBlock.{QuantizedBlock}
use Rattle.guarded_quantizer.specs.Bitmap.{bitmap_of}
use Rattle.guarded_quantizer.specs.Record.{ac_places, record_of}
use Rattle.guarded_quantizer.proofs.Order.{ac-index}

abbrev pub made : ℤ → List ℤ → ℕ → List ℕ → QuantizedBlock
made d l b q = record { dc = d; ac_coefficients = l; nonzero_ac = b; divisors = q }

pub whole : (quant : List ℕ) (f : ℕ → ℤ) {d : ℤ} {l : List ℤ} {b : ℕ} {q : List ℕ} → d ≡ f 0 → l ≡ ac_places f → b ≡ bitmap_of l → q ≡ quant → made d l b q ≡ record_of quant f
unfolding record_of
whole quant f e h k t = λ i. made (e i) (h i) ((k ∙ ap bitmap_of h) i) (t i)

-- AC place 0
pub ac-first : (f : ℕ → ℤ) → get_or (ac_places f) 0 (pos 0) ≡ pos 0
unfolding tab ac_places
ac-first f = refl

-- AC place z from 1 to 63
abbrev pub ac_at : (ℕ → ℤ) → ℕ → ℤ
ac_at f z = cond (eqb z 0) (pos 0) (f (get_or zigzag_order z 0))

pub ac-at : (f : ℕ → ℤ) (z : ℕ) → 1 ≤ z → ac_at f z ≡ f (get_or zigzag_order z 0)
ac-at f z a = ap (λ (t : Bool). cond t (pos 0) (f (get_or zigzag_order z 0))) (ne_eqb z 0 (λ i. omega arith))

pub ac-place : (f : ℕ → ℤ) (z : ℕ) → 1 ≤ z → z < 64 → get_or (ac_places f) z (pos 0) ≡ f (get_or zigzag_order z 0)
unfolding ac_places
ac-place f z a h = get_d-tab 64 (ac_at f) (pos 0) z h ∙ ac-at f z a

ac-same : (f g : ℕ → ℤ) → ((n : ℕ) → n < 64 → f n ≡ g n) → ac_places f ≡ ac_places g
unfolding ac_places
ac-same f g e = tab-ext 64 (ac_at f) (ac_at g) (λ z b. go z b (eqb z 0) refl)
  where
    go : (z : ℕ) → z < 64 → (t : Bool) → eqb z 0 ≡ t → cond t (pos 0) (f (get_or zigzag_order z 0)) ≡ cond t (pos 0) (g (get_or zigzag_order z 0))
    go z b true q = refl
    go z b false q = e (get_or zigzag_order z 0) (ac-index z (omega (arith, eqb-false z 0 q)) b).1

-- the record of 64 coefficients
pub record-tab : (quant : List ℕ) (f : ℕ → ℤ) {l : List ℤ} {r : QuantizedBlock} → l ≡ tab 64 f → r ≡ record_of quant (λ n. get_or l n (pos 0)) → r ≡ record_of quant f
unfolding record_of
record-tab quant f {l = l} e q = q ∙ whole quant f (value 0 (omega arith)) (ac-same (λ n. get_or l n (pos 0)) f value) refl refl
  where
    value : (n : ℕ) → n < 64 → get_or l n (pos 0) ≡ f n
    value n h = ap (λ (t : List ℤ). get_or t n (pos 0)) e ∙ get_d-tab 64 f (pos 0) n h
