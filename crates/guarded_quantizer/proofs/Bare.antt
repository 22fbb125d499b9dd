-- The bare block of a record, of one that the guarded entry made too.
-- Assumes nothing.
use Rattle.std.specs.Prelude.{◌≡◌, ℕ, ◌<◌, ◌≤◌, Bool, true, false, cond, T, eqb, List, length, get_or, ℤ, pos}
use mathlib.Core.Path.{refl, sym, ap, ◌∙◌}
use mathlib.Core.List.{flat_map}
use native.Mathlib.Omega.{arith}
use borrow.Author.Tests.{eqb-true, eqb-false, ne_eqb}
use lib.Ieee.{Float}
use Rattle.lists.specs.Tab.{tab}
use Rattle.lists.proofs.Tab.{length-tab, tab-ext, by-elements, tab-get_d, get_d-tab}
use Rattle.zigzag.specs.Zigzag.{diagonal, walked, zigzag_order, places}
use Rattle.zigzag.proofs.Inverse.{natural-of-place, place-of-natural}
use Rattle.quantize.specs.Quantize.{divisor_of}
use Rattle.refusals.specs.Refusals.{status}
use Rattle.refusals.proofs.Refusals.{wrote, passed-all}
use Rattle.guarded_quantizer.specs.declared.QuantizedBlock.{QuantizedBlock}
use Rattle.guarded_quantizer.specs.Record.{record_of}
use Rattle.guarded_quantizer.specs.Answer.{coefficients_of, guarded_tests, guarded_answer}
use Rattle.guarded_quantizer.specs.Same.{same_numbers, same_records, bare_block}
use Rattle.guarded_quantizer.proofs.Zero.{no_zero}
use Rattle.guarded_quantizer.proofs.Order.{ac-index, ac-found}
use Rattle.guarded_quantizer.proofs.Record.{ac-place}
use Rattle.guarded_quantizer.proofs.Same.{numbers-yes, numbers-all, same-yes, finer}

-- coefficient n of a bare block
abbrev bare_at : QuantizedBlock → ℕ → ℤ
bare_at r n = cond (eqb n 0) r.dc (get_or r.ac_coefficients (get_or places n 0) (pos 0))

-- records whose numbers agree have one bare block
pub bare-same : (a b : QuantizedBlock) → T (same_numbers a b) → bare_block a ≡ bare_block b
unfolding bare_block
bare-same a b t = tab-ext 64 (bare_at a) (bare_at b) (λ n h. go n h (eqb n 0) refl)
  where
    go : (n : ℕ) → n < 64 → (f : Bool) → eqb n 0 ≡ f → cond f a.dc (get_or a.ac_coefficients (get_or places n 0) (pos 0)) ≡ cond f b.dc (get_or b.ac_coefficients (get_or places n 0) (pos 0))
    go n h true q = (numbers-yes a b t).0
    go n h false q =
        let found = ac-found n (omega (arith, eqb-false n 0 q)) h in
        (numbers-yes a b t).1 (get_or places n 0) found.0 found.1

-- a table of 64 entries has no default within
within : (l : List ℕ) (d k : ℕ) → length l ≡ 64 → k < 64 → get_or l k 0 ≡ get_or l k d
within l d k e h = ap (λ (t : List ℕ). get_or t k 0) (sym (tab-get_d d l 64 e)) ∙ get_d-tab 64 (λ i. get_or l i d) 0 k h

-- the coefficient at a coefficient's own place, and back
natural : (n : ℕ) → n < 64 → get_or places n 0 < 64 → get_or zigzag_order (get_or places n 0) 0 ≡ n
unfolding flat_map tab diagonal walked zigzag_order
natural n h b = within zigzag_order 64 (get_or places n 0) refl b ∙ natural-of-place n h

place : (z : ℕ) → z < 64 → get_or zigzag_order z 0 < 64 → get_or places (get_or zigzag_order z 0) 0 ≡ z
unfolding places
place z h b = within places 64 (get_or zigzag_order z 0) (length-tab 64 _) b ∙ place-of-natural z h

-- AC place z in the bare block
bare-ac : (r : QuantizedBlock) (z : ℕ) → 1 ≤ z → z < 64 → get_or (bare_block r) (get_or zigzag_order z 0) (pos 0) ≡ get_or r.ac_coefficients z (pos 0)
unfolding bare_block
bare-ac r z a h =
    let n = ac-index z a h in
    get_d-tab 64 (bare_at r) (pos 0) (get_or zigzag_order z 0) n.1
    ∙ ap (λ (t : Bool). cond t r.dc (get_or r.ac_coefficients (get_or places (get_or zigzag_order z 0) 0) (pos 0))) (ne_eqb (get_or zigzag_order z 0) 0 (λ e. omega arith))
    ∙ ap (λ (k : ℕ). get_or r.ac_coefficients k (pos 0)) (place z h n.1)

bare-dc : (r : QuantizedBlock) → get_or (bare_block r) 0 (pos 0) ≡ r.dc
unfolding bare_block
bare-dc r = get_d-tab 64 (bare_at r) (pos 0) 0 (omega arith)

-- and records of one bare block agree in their numbers
pub same-bare : (a b : QuantizedBlock) → bare_block a ≡ bare_block b → T (same_numbers a b)
same-bare a b e =
    numbers-all a b
    (sym (bare-dc a) ∙ ap (λ (l : List ℤ). get_or l 0 (pos 0)) e ∙ bare-dc b)
    (λ z p h. sym (bare-ac a z p h) ∙ ap (λ (l : List ℤ). get_or l (get_or zigzag_order z 0) (pos 0)) e ∙ bare-ac b z p h)

-- the bare block of a record is the coefficients that it was made from
pub bare-made : (quant : List ℕ) (f : ℕ → ℤ) → bare_block (record_of quant f) ≡ tab 64 f
unfolding bare_block record_of
bare-made quant f = tab-ext 64 _ f (λ n h. go n h (eqb n 0) refl)
  where
    go : (n : ℕ) → n < 64 → (t : Bool) → eqb n 0 ≡ t → cond t (f 0) (get_or (record_of quant f).ac_coefficients (get_or places n 0) (pos 0)) ≡ f n
    go n h true q = ap f (sym (eqb-true n 0 q))
    go n h false q =
        let found = ac-found n (omega (arith, eqb-false n 0 q)) h in
        ac-place f (get_or places n 0) found.0 found.1 ∙ ap f (natural n h found.1)

-- an answer that is no refusal
module _ (block quant : List ℕ) (rs : List Float) (e : (guarded_answer block quant rs).status ≡ 0) where
  none-failed : status (guarded_tests block quant) ≡ 0
  unfolding guarded_answer
  none-failed = e

  pub made-record : (guarded_answer block quant rs).value ≡ record_of quant (coefficients_of block quant rs)
  unfolding guarded_answer
  made-record = sym (wrote _ _ none-failed refl)

  pub table-long : length quant ≡ 64
  table-long = eqb-true _ _ (passed-all (guarded_tests block quant) tt none-failed).1.0

  -- "all divisors" are those of demand 3: no quantizer is 0
  pub divisors-are : (n : ℕ) → n < 64 → get_or (guarded_answer block quant rs).value.divisors n 0 ≡ divisor_of (get_or quant n 0)
  unfolding record_of divisor_of
  divisors-are n h =
      let some = no_zero quant n (passed-all (guarded_tests block quant) tt none-failed).1.1.0 (omega (arith, table-long)) in
      ap (λ (r : QuantizedBlock). get_or r.divisors n 0) made-record ∙ (omega arith)

  pub bare-answer : bare_block (guarded_answer block quant rs).value ≡ tab 64 (coefficients_of block quant rs)
  bare-answer = ap bare_block made-record ∙ bare-made quant (coefficients_of block quant rs)

-- two such answers whose records are the same: their tables are one, and so are their coefficients
module _ (block quant : List ℕ) (rs : List Float) (block' quant' : List ℕ) (rs' : List Float)
    (e : (guarded_answer block quant rs).status ≡ 0) (e' : (guarded_answer block' quant' rs').status ≡ 0)
    (same : T (same_records (guarded_answer block quant rs).value (guarded_answer block' quant' rs').value)) where
  pub same_tables : quant ≡ quant'
  unfolding record_of
  same_tables =
      by-elements 64 (λ n. get_or quant' n 0) 0 quant (table-long block quant rs e) (λ n h.
      ap (λ (r : QuantizedBlock). get_or r.divisors n 0) (sym (made-record block quant rs e)) ∙ (same-yes _ _ same).divisors n h
      ∙ ap (λ (r : QuantizedBlock). get_or r.divisors n 0) (made-record block' quant' rs' e'))
      ∙ tab-get_d 0 quant' 64 (table-long block' quant' rs' e')

  pub same-coefficients : tab 64 (coefficients_of block quant rs) ≡ tab 64 (coefficients_of block' quant' rs')
  same-coefficients = sym (bare-answer block quant rs e) ∙ bare-same _ _ (finer _ _ same) ∙ bare-answer block' quant' rs' e'
