-- What the call answers, of what it worked out. Assumes nothing.
use mathlib.Core.Path.{◌≡◌, refl, sym, ap, ◌∙◌}
use mathlib.Core.List.{List}
use Prim.Native.Nat.{ℕ, suc, ◌+◌, ◌-◌, ◌≤◌, min}
use native.Mathlib.Omega.{arith}
use borrow.Author.Tests.{eqb-true}
use lib.ListN.{length, get_or}
use Rattle.lists.specs.Tab.{tab}
use Rattle.lists.proofs.Tab.{length-tab}
use Rattle.refusals.specs.Refusals.{status, written}
use Rattle.refusals.proofs.Refusals.{kept, wrote, passed-all}
use Rattle.plane.specs.Ready.{PlaneOf}
use Rattle.plane.proofs.Coding.{measured-range}
use Rattle.percent.specs.Percent.{percent_table}
use Rattle.percent.proofs.Nonzeros.{plane-nonzeros}
use Rattle.fewest.specs.Fewest.{Found, NoneGood, Good, plane_error, plane_nonzeros, error_at, count_at, percents_tried, best, far_off, search_tests, best_percent, fewest_answer}
use Rattle.fewest.specs.Blocks.{percent_tables, table_of, first_of, at_percent}
use Rattle.fewest.proofs.Tables.{table-percent}
use Rattle.fewest.proofs.Growing.{first-at}
use Rattle.fewest.proofs.Searching.{best-same}

-- where no test fails
pub ready : (samples : List ℕ) (w h : ℕ) (base : List ℕ) → status (search_tests samples w h base) ≡ 0 → PlaneOf samples w h × (length base ≡ 64)
unfolding search_tests
ready samples w h base e =
    let all = passed-all (search_tests samples w h base) tt e in
    let rw = measured-range w all.0 in
    let rh = measured-range h all.1.0 in
    let rest = all.1.1 in
    (record { w-some = rw.0; w-most = rw.1; h-some = rh.0; h-most = rh.1; long = eqb-true _ _ rest.0 }, eqb-true _ _ rest.1.0)

-- a larger percent never has more nonzero coefficients
pub count-falls : (samples : List ℕ) (w h : ℕ) (base : List ℕ) (p q : ℕ) → p ≤ q → count_at samples w h base q ≤ count_at samples w h base p
unfolding count_at plane_nonzeros
count-falls samples w h base p q l = plane-nonzeros samples w h base p q l

pub trial-number : (given : ℕ) → length (percents_tried given) ≡ min given 200
unfolding percents_tried
trial-number given = length-tab (min given 200) suc

held : {A : Type 0} (value zero : A) {s t : ℕ} → s ≡ t → (s ≡ 0 → ⊥) → zero ≡ written t value zero
held value zero e z = kept value zero z ∙ ap (λ (t : ℕ). written t value zero) e

module _ (samples : List ℕ) (w h : ℕ) (base : List ℕ) (limit given : ℕ) where
  pub refused : {s : ℕ} → s ≡ status (search_tests samples w h base) → (s ≡ 0 → ⊥) → record { status = s; found = NoneGood; off = 0; trials = 0 } ≡ fewest_answer samples w h base limit given
  unfolding fewest_answer
  refused {s} e z =
      let found = best_percent samples w h base limit given in
      λ i. record { status = e i; found = held found NoneGood e z i; off = held (far_off (count_at samples w h base) found) 0 e z i; trials = held (length (percents_tried given)) 0 e z i }

  -- of what the call worked out
  module _ {n : ℕ} {f : Found} {tables errors counts : List ℕ} {last : ℕ} (en : n ≡ min given 200) (et : tables ≡ percent_tables base)
      (ee : errors ≡ first_of n (λ p. plane_error samples w h (table_of tables p))) (ec : counts ≡ first_of n (λ p. plane_nonzeros samples w h (table_of tables p)))
      (el : last ≡ plane_nonzeros samples w h (table_of tables 199)) (eb : f ≡ best limit (at_percent errors) (at_percent counts) (tab n suc)) where
    table : (p : ℕ) → 1 ≤ p → p ≤ 200 → table_of tables (p - 1) ≡ percent_table base p
    table p a b =
        let e : p - 1 + 1 ≡ p = omega arith in
        ap (λ (t : List ℕ). table_of t (p - 1)) et ∙ table-percent base (p - 1) (omega arith) ∙ ap (percent_table base) e

    error-is : (p : ℕ) → 1 ≤ p → p ≤ n → at_percent errors p ≡ error_at samples w h base p
    unfolding at_percent error_at
    error-is p a b = ap (λ (l : List ℕ). get_or l (p - 1) 0) ee ∙ first-at n _ (p - 1) (omega arith) (omega arith) ∙ ap (plane_error samples w h) (table p a (omega arith))

    count-is : (p : ℕ) → 1 ≤ p → p ≤ n → at_percent counts p ≡ count_at samples w h base p
    unfolding at_percent count_at
    count-is p a b = ap (λ (l : List ℕ). get_or l (p - 1) 0) ec ∙ first-at n _ (p - 1) (omega arith) (omega arith) ∙ ap (plane_nonzeros samples w h) (table p a (omega arith))

    last-is : last ≡ count_at samples w h base 200
    unfolding count_at
    last-is = el ∙ ap (plane_nonzeros samples w h) (table 200 (omega arith) (omega arith))

    found-is : f ≡ best_percent samples w h base limit given
    unfolding best_percent percents_tried
    found-is =
        eb ∙ best-same limit _ _ _ _ n error-is count-is ∙ ap (λ (m : ℕ). best limit (error_at samples w h base) (count_at samples w h base) (tab m suc)) en

    -- the count at percent 200 is the least
    pub last-least : (p : ℕ) → 1 ≤ p → p ≤ n → last ≤ at_percent counts p
    last-least p a b = omega (arith, last-is, count-is p a b, count-falls samples w h base p 200 (omega arith))

    answered : {g : Found} {o : ℕ} → 0 ≡ status (search_tests samples w h base) → g ≡ best_percent samples w h base limit given → o ≡ far_off (count_at samples w h base) g →
        record { status = 0; found = g; off = o; trials = n } ≡ fewest_answer samples w h base limit given
    unfolding fewest_answer
    answered {g} e ef eo =
        let s = sym e in
        λ i. record {
          status = e i;
          found = wrote (best_percent samples w h base limit given) NoneGood s ef i;
          off = wrote (far_off (count_at samples w h base) (best_percent samples w h base limit given)) 0 s (eo ∙ ap (far_off (count_at samples w h base)) ef) i;
          trials = wrote (length (percents_tried given)) 0 s (en ∙ sym (trial-number given)) i;
        }

    pub none-good : 0 ≡ status (search_tests samples w h base) → f ≡ NoneGood → record { status = 0; found = NoneGood; off = 0; trials = n } ≡ fewest_answer samples w h base limit given
    unfolding far_off
    none-good e z = answered e (sym z ∙ found-is) refl

    pub some_good : 0 ≡ status (search_tests samples w h base) → (p : ℕ) → 1 ≤ p → p ≤ n → f ≡ Good p → record { status = 0; found = Good p; off = at_percent counts p - last; trials = n } ≡ fewest_answer samples w h base limit given
    unfolding far_off
    some_good e p a b z = answered e (sym z ∙ found-is) (λ i. count-is p a b i - last-is i)
