use mathlib.Core.Path.{◌≡◌, ap, ◌∙◌}
use mathlib.Core.List.{List, [], ◌∷◌, map}
use Prim.Native.Nat.{ℕ}
use lib.Dec.{lit<}
use lib.ListN.{get_or}
use lib.IntN.{ℤ, pos}
use mir.Syntax.{w32}
use mir.Val.{SFits, to_z, of_z}
use mir.ValLaws.{to_z-of_z}
use Rattle.lists.specs.Tab.{tab}
use Rattle.clamping.specs.Clamping.{sample_u8}
use Rattle.clamping.specs.Counts.{counted, tally_one}
use Rattle.passes.specs.Passes.{two, row_pass}
use Rattle.block.specs.Block.{row_of, row_samples}
use Rattle.block.specs.Clamped.{itself}
use Rattle.block.proofs.Fit.{all_fit}
use Rattle.idct_reduced.proofs.two.rows_2.Goals as goal

-- the answer and the samples of the two rows q and r, whose numbers the code handed on
module _ (w : List (List ℤ)) {q r : List ℤ} (e : q ≡ row_pass two (row_of w 0)) (f : r ≡ row_pass two (row_of w 1)) where
  abbrev held : List ℤ → ℕ → ℤ
  held p x = to_z w32 (of_z w32 (get_or p x (pos 0)))

  at : {p p' : List ℤ} → p ≡ p' → (x : ℕ) → SFits w32 (get_or p x (pos 0)) → held p x ≡ get_or p' x (pos 0)
  at g x s = to_z-of_z w32 _ s ∙ ap (λ (p : List ℤ). get_or p x (pos 0)) g

  made : {t : ℕ} {out : List ℕ} → SFits w32 (get_or q 0 (pos 0)) → SFits w32 (get_or q 1 (pos 0)) → SFits w32 (get_or r 0 (pos 0)) → SFits w32 (get_or r 1 (pos 0)) →
      (t ≡ counted tally_one (held q 0 ∷ held q 1 ∷ held r 0 ∷ held r 1 ∷ [])) × (out ≡ map sample_u8 (held q 0 ∷ held q 1 ∷ held r 0 ∷ held r 1 ∷ [])) →
      (t ≡ counted tally_one (row_samples (row_pass two) itself 2 w)) × (out ≡ row_samples (row_pass two) sample_u8 2 w)
  unfolding row_samples tab
  made a b c d put =
      let four : held q 0 ∷ held q 1 ∷ held r 0 ∷ held r 1 ∷ [] ≡ row_samples (row_pass two) itself 2 w = λ i. at e 0 a i ∷ at e 1 b i ∷ at f 0 c i ∷ at f 1 d i ∷ [] in
      (put.0 ∙ ap (counted tally_one) four, put.1 ∙ ap (map sample_u8) four)

pub returns-then-columns_fit : goal.returns-then-columns_fit
returns-then-columns_fit c =
    let all = made _ c.full_row_2-q.ensures c.full_row_2-r.ensures
    (record { sfits = c.put_2-arg-then-columns_fit-1.given }) (record { sfits = c.put_2-arg-then-columns_fit-2-1.given }) (record { sfits = c.put_2-arg-then-columns_fit-3-1.given }) (record { sfits = c.put_2-arg-then-columns_fit-4-1.given }) (c.put_2.ensures.value, c.put_2.ensures.output_after) in record { value = all.0; output_after = all.1 }

pub returns : goal.returns
returns c =
    let all = made _ (c.row_2-q.ensures ∙ ap (row_pass two) (c.load_row.ensures (pos 0))) (c.row_2-r.ensures ∙ ap (row_pass two) (c.load_row-2.ensures (pos 0)))
    (record { sfits = c.put_2-arg-3-1.given }) (record { sfits = c.put_2-arg-4-1.given }) (record { sfits = c.put_2-arg-5-1.given }) (record { sfits = c.put_2-arg-6-1.given }) (c.put_2-2.ensures.value, c.put_2-2.ensures.output_after) in record { value = all.0; output_after = all.1 }

pub full_row_2-q-requires : goal.full_row_2-q-requires
full_row_2-q-requires c = record { y_bound = lit< tt; every = all_fit c.args.w.now c.columns_fit.ensures c.if-columns_fit.true }

pub full_row_2-r-requires : goal.full_row_2-r-requires
full_row_2-r-requires c = record { y_bound = lit< tt; every = all_fit c.args.w.now c.columns_fit.ensures c.if-columns_fit.true }
