use mathlib.Core.Path.{◌≡◌, refl, sym, ap, ap₂, ◌∙◌}
use mathlib.Core.List.{List}
use Prim.Native.Nat.{ℕ, ◌+◌, ◌*◌, ◌^◌, ◌≤◌}
use native.Mathlib.Numerals.{add-one}
use native.Mathlib.Omega.{arith}
use lib.ListN.{get_or, replicate}
use Rattle.forward.specs.Sum.{total}
use Rattle.plane.specs.Plane.{blocks}
use Rattle.fewest.specs.Fewest.{plane_error, plane_nonzeros}
use Rattle.fewest.specs.Blocks.{table_of, error_of, count_of, first_of, grown, Room}
use Rattle.fewest.proofs.Tiles.{error-blocks}
use Rattle.fewest.proofs.Growing.{first-none, first_more, first-most, first-ext}
use Rattle.fewest.proofs.Trials.{errors-most, counts-most, count-blocks}

-- the sums of the first k blocks
pub record Sums (samples : List ℕ) (w h : ℕ) (tables : List ℕ) (n k : ℕ) (errors counts : List ℕ) (last : ℕ) : Type 0 where
  pub errors-are : errors ≡ first_of n (λ p. total k (error_of samples w h (table_of tables p)))
  pub counts-are : counts ≡ first_of n (λ p. total k (count_of samples w h (table_of tables p)))
  pub last-is : last ≡ total k (count_of samples w h (table_of tables 199))

module _ {samples : List ℕ} {w h : ℕ} {tables : List ℕ} {n : ℕ} where
  pub none : {errors counts : List ℕ} → errors ≡ replicate 200 0 → counts ≡ replicate 200 0 → Sums samples w h tables n 0 errors counts 0
  unfolding total
  none e c = record { errors-are = e ∙ first-none _ _ (λ p. refl); counts-are = c ∙ first-none _ _ (λ p. refl); last-is = refl }

  module _ {k : ℕ} {errors counts : List ℕ} {last : ℕ} (s : Sums samples w h tables n k errors counts last) where
    pub room : ((i : ℕ) → get_or samples i 0 ≤ 255) → k ≤ 512 * 512 → Room errors counts
    room bytes few =
        record {
          errors-most = λ p. rw s.errors-are (first-most n _ (2 ^ 62) (λ q. omega (arith, errors-most samples bytes w h (table_of tables q) k)) p);
          counts-most = λ p. rw s.counts-are (first-most n _ (2 ^ 62) (λ q. omega (arith, counts-most samples w h (table_of tables q) k)) p);
        }

    pub last-most : last ≤ k * 64
    last-most = rw s.last-is (counts-most samples w h (table_of tables 199) k)

    pub more : {errors' counts' : List ℕ} {r : ℕ} → r ≡ count_of samples w h (table_of tables 199) k → errors' ≡ grown n (λ p. error_of samples w h (table_of tables p) k) errors →
        counts' ≡ grown n (λ p. count_of samples w h (table_of tables p) k) counts → Sums samples w h tables n (k + 1) errors' counts' (last + r)
    unfolding total
    more {r = r} er ee ec =
        let step : (f : ℕ → ℕ) → total (k + 1) f ≡ total k f + f k = λ f. ap (λ (j : ℕ). total j f) (add-one k) in
        record {
          errors-are = ee ∙ ap (grown n _) s.errors-are ∙ first_more n _ _ _ (λ p. step (error_of samples w h (table_of tables p)));
          counts-are = ec ∙ ap (grown n _) s.counts-are ∙ first_more n _ _ _ (λ p. step (count_of samples w h (table_of tables p)));
          last-is = ap₂ ◌+◌ s.last-is er ∙ sym (step (count_of samples w h (table_of tables 199)));
        }

    pub all : k ≡ blocks w * blocks h → (last ≡ plane_nonzeros samples w h (table_of tables 199)) ×
        ((errors ≡ first_of n (λ p. plane_error samples w h (table_of tables p))) × (counts ≡ first_of n (λ p. plane_nonzeros samples w h (table_of tables p))))
    all e =
        let at : (f : ℕ → ℕ) → total k f ≡ total (blocks w * blocks h) f = λ f. ap (λ (j : ℕ). total j f) e in (
          s.last-is ∙ at _ ∙ sym (count-blocks samples w h (table_of tables 199)),
          (
            s.errors-are ∙ first-ext n _ _ (λ p b. at _ ∙ sym (error-blocks samples w h (table_of tables p))),
            s.counts-are ∙ first-ext n _ _ (λ p b. at _ ∙ sym (count-blocks samples w h (table_of tables p))),
          ),
        )
