-- The answers of the entries, as their contract clauses state them; what a yes says; and what the canonical entry writes passes the screen.
-- Assumes nothing.
use mathlib.Core.Path.{◌≡◌, refl, sym, subst, ◌∙◌}
use mathlib.Core.Bool.{true, false}
use mathlib.Core.List.{List}
use Prim.Native.Nat.{ℕ, ◌<◌}
use lib.Dec.{T}
use lib.ListN.{length, get_or}
use lib.IntN.{ℤ, pos}
use lib.Ieee.Bits.{is_true}
use Rattle.std.specs.Bool.{one_answer}
use Rattle.std.specs.Cmp.Lexicographic.{pointwise}
use Rattle.std.specs.Cmp.Rules.{signed_items}
use Rattle.std.specs.Ordering.{int_eq}
use Rattle.integers.proofs.Equal.{eq_z-same, eq_z-true}
use Rattle.lists.proofs.Tab.{length-tab, by-elements, get_d-tab, tab-get_d}
use Rattle.lists.proofs.Below.{below_at, at-below, below_holds}
use Rattle.refusals.proofs.Refusals.{has, ◌then◌, accepted, answered}
use Rattle.basis.specs.Cosine.{cosines}
use Rattle.basis.specs.Basis.{reduced, cosine_of, negated, signed, factor, entry, reflected, mirrors, basis}
use Rattle.quantize.specs.Quantize.{divisor_of}
use Rattle.forward.specs.Sum.{total}
use Rattle.forward.specs.Forward.{scaled_sum}
use Rattle.forward.specs.Canonical.{Bytes, canonical_at, canonical, coefficients_at, coefficients}
use Rattle.stored_blocks.specs.Screen.{SumOf, Passes}
use Rattle.stored_blocks.specs.Stored.{screened, screen_tests, screen_answer, same_blocks}
use Rattle.stored_blocks.proofs.Extent.{weighed, extent, low-least, high-greatest, high-size}
use Rattle.stored_blocks.proofs.Limits.{passes-yes, passes-all, within, passes-within, within-passes}

module _ (a b : List ℤ) where
  -- "all 64 coefficients equal": the two blocks are the same list
  pub same-yes : length a ≡ 64 → length b ≡ 64 → T (same_blocks a b) → a ≡ b
  unfolding same_blocks
  same-yes p q t =
      by-elements 64 (λ n. get_or b n (pos 0)) (pos 0) a p (λ n h. eq_z-true (get_or a n (pos 0)) (get_or b n (pos 0)) (is_true _ (below_at 64 _ t n h))) ∙ tab-get_d (pos 0) b 64 q

  pub same-equal : a ≡ b → same_blocks a b ≡ true
  unfolding same_blocks
  same-equal e = below_holds 64 _ (λ n h. eq_z-same (get_or a n (pos 0)) (get_or b n (pos 0)) (λ i. get_or (e i) n (pos 0)))

  -- what `==` says of them
  pub compared : length a ≡ 64 → length b ≡ 64 → pointwise int_eq a b ≡ same_blocks a b
  compared p q = one_answer _ _ (signed_items a b) (λ t. same-yes p q (subst T (sym t) tt), same-equal)

module _ (cs : List ℤ) (quant : List ℕ) where
  -- the screen's yes, both ways
  pub screen-yes : T (screened cs quant) → (n : ℕ) → n < 64 → Passes n (get_or quant n 0) (get_or cs n (pos 0))
  unfolding screened
  screen-yes t n h = passes-yes n (get_or quant n 0) (get_or cs n (pos 0)) (below_at 64 _ t n h)

  pub screen-all : ((n : ℕ) → n < 64 → Passes n (get_or quant n 0) (get_or cs n (pos 0))) → T (screened cs quant)
  unfolding screened
  screen-all h = at-below 64 _ (λ n b. passes-all n (get_or quant n 0) (get_or cs n (pos 0)) (h n b))

-- what the canonical entry writes for any 8-bit block and any table passes
pub canonical-passes : (block quant : List ℕ) → Bytes block → T (screened (coefficients block quant) quant)
unfolding coefficients_at canonical_at
canonical-passes block quant e =
    screen-all (coefficients block quant) quant (λ n h.
    let S : ℤ = scaled_sum 128 block n in
    let s : SumOf n S = record { block = block; bytes = e; is = refl } in
    record { number = S; from = (low-least n).1 S s; to = (high-greatest n).1 S s; has = sym (get_d-tab 64 (canonical block quant) (pos 0) n h) })

-- so the screen answers yes
pub canonical-answer : (block quant : List ℕ) → Bytes block → length quant ≡ 64 → screen_answer (coefficients block quant) quant ≡ record { status = 0; value = true }
unfolding coefficients_at
canonical-answer block quant e q =
    sym (answered (screened (coefficients block quant) quant) false (screen_tests (coefficients block quant) quant) (λ s t. record { status = s; value = t })
    (accepted _ _ _ (has (length-tab 64 (canonical block quant)) then has q then tt) (sym (is_true _ (canonical-passes block quant e)))))

-- "DC 5 with 225 passes, 6 does not"
pub white-dc : Passes 0 225 (pos 5) × (Passes 0 225 (pos 6) → ⊥)
unfolding within divisor_of total extent weighed cosines reduced cosine_of negated signed factor entry reflected mirrors basis
white-dc = (within-passes 0 225 (pos 5) (rw (high-size 0) tt), λ p. let t = passes-within 0 225 p in rw (high-size 0) at t)
