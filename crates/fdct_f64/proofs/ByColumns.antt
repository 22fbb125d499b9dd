-- The law of two loops that fill an 8×8 block column by column: place n = 8v + u is the one at 8u + v in that order.
-- Assumes nothing.
use Rattle.std.specs.Prelude.{◌≡◌, ℕ, ◌+◌, ◌*◌, ◌/◌, ◌%◌, ◌<◌, Bool, true, false, eqb, List, length, get_or, set}
use mathlib.Core.Path.{refl, ◌∙◌}
use native.Mathlib.Omega.{arith}
use borrow.Author.Tests.{eqb-true, eqb-false}
use lib.ListN.{length-set}
use lib.Seq.{get_or-set_same, get_or-set_other}
use Rattle.lists.specs.Tab.{tab}
use Rattle.lists.proofs.Tab.{by-elements}

-- l has 64 elements, of which the first k in the order of columns are f's
pub record ByColumns {A : Type 0} (d : A) (f : ℕ → A) (k : ℕ) (l : List A) : Type 0 where
  pub long : length l ≡ 64
  pub front : (n : ℕ) → n < 64 → 8 * (n % 8) + n / 8 < k → get_or l n d ≡ f n

module _ {A : Type 0} (d : A) (f : ℕ → A) where
  pub none : (l : List A) → length l ≡ 64 → ByColumns d f 0 l
  none l e = record { long = e; front = λ n b h. absurd (omega arith) }

  pub more : (u v k : ℕ) (l : List A) (x : A) → ByColumns d f (8 * u + v) l → u < 8 → v < 8 → k ≡ 8 * u + v + 1 → x ≡ f (8 * v + u) → ByColumns d f k (set l (8 * v + u) x)
  more u v k l x h bu bv s e = record { long = length-set l (8 * v + u) x ∙ h.long; front = λ n b o. go n b o (eqb n (8 * v + u)) refl }
    where
      go : (n : ℕ) → n < 64 → 8 * (n % 8) + n / 8 < k → (t : Bool) → eqb n (8 * v + u) ≡ t → get_or (set l (8 * v + u) x) n d ≡ f n
      go n b o true q =
          let i : n ≡ 8 * v + u = eqb-true n (8 * v + u) q in
          rw i (get_or-set_same l (8 * v + u) x d (omega (arith, h.long)) ∙ e)
      go n b o false q =
          let i : n ≡ 8 * v + u → ⊥ = eqb-false n (8 * v + u) q in
          get_or-set_other l (8 * v + u) n x d i ∙ h.front n b (omega (arith, i))

  -- the same count, said in another way
  pub same : (k k' : ℕ) (l : List A) → ByColumns d f k l → k ≡ k' → ByColumns d f k' l
  same k k' l h e = rw (← e) h

  pub all : (k : ℕ) (l : List A) → ByColumns d f k l → k ≡ 64 → l ≡ tab 64 f
  all k l h e = by-elements 64 f d l h.long (λ n b. h.front n b (omega arith))
