-- Laws of `descaled`, at any width.
-- Assumes nothing.
use mathlib.Core.Path.{◌≡◌, refl, ap, ◌∙◌, subst⁻¹}
use mathlib.Core.Bool.{Bool, true, false, ◌&&◌}
use Prim.Native.Nat.{ℕ, ◌-◌, ◌*◌, ◌%◌, ◌^◌, ◌≤◌, ◌<◌}
use native.Mathlib.Omega.{arith}
use borrow.Author.Tests.{ltb-true, ltb-false, le-leb, lt-leb}
use lib.Dec.{T}
use lib.IntN.{ℤ, pos, negsuc, nat_abs, ◌+ℤ◌, ◌*ℤ◌}
use lib.Signed.{lt_z, le_z, non_neg}
use mir.Syntax.{Width, w32}
use mir.Val.{Fits, SFits, bits, hbits, to_z, of_z}
use mir.ValLaws.{to_z-of_z}
use Rattle.integers.specs.Wrap.{wrap}
use Rattle.integers.specs.Floor.{floor_div}
use Rattle.integers.proofs.Linear.{one-*ℤ}
use Rattle.integers.proofs.Wrap.{wrap-id, wrap-fits, wrap-+right}
use Rattle.integers.proofs.Shift.{floor-fits}
use Rattle.scaling.specs.Scaling.{descaled}

module _ (w : Width) where
  pub descaled-fits : (v : ℤ) (s : ℕ) → SFits w (descaled w v s)
  unfolding descaled
  descaled-fits v s = floor-fits w (2 ^ s) (wrap-fits w _)

  -- where the sum does not wrap, the division alone
  pub descaled-exact : (v : ℤ) (s : ℕ) → SFits w (v +ℤ pos (2 ^ (s - 1))) → descaled w v s ≡ floor_div (v +ℤ pos (2 ^ (s - 1))) (2 ^ s)
  unfolding descaled
  descaled-exact v s f = ap (λ (z : ℤ). floor_div z (2 ^ s)) (wrap-id w _ f)

  -- what the code computes: v and the half 1 << (s - 1), shifted right
  pub descales : (v : ℤ) (s : ℕ) {o h r q : ℤ} → o ≡ pos 1 → h ≡ wrap w (o *ℤ pos (2 ^ (s - 1))) → r ≡ wrap w (v +ℤ h) → q ≡ floor_div r (2 ^ s) → q ≡ descaled w v s
  unfolding descaled
  descales v s eo eh er eq =
      let half = eh ∙ ap (λ (t : ℤ). wrap w (t *ℤ pos (2 ^ (s - 1)))) eo ∙ ap (wrap w) (one-*ℤ _) in
      eq ∙ ap (λ (z : ℤ). floor_div z (2 ^ s)) (er ∙ ap (λ (t : ℤ). wrap w (v +ℤ t)) half ∙ wrap-+right w v (pos (2 ^ (s - 1))))

  -- what a call with a parameter gave, at a type that is its own number
  pub descaled-read : {v r : ℤ} (s : ℕ) (f : SFits w v) → r ≡ descaled w (to_z w (of_z w v)) s → to_z w (of_z w r) ≡ descaled w v s
  descaled-read {v} s f e = rw (e, to_z-of_z w v f) (to_z-of_z w _ (descaled-fits v s))
