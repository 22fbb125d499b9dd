-- The two calls that recode a strip are not refused.
-- Assumes nothing.
use mathlib.Core.Path.{◌≡◌, refl, ap, sym, ◌∙◌}
use mathlib.Core.Bool.{true}
use mathlib.Core.List.{List}
use Prim.Native.Nat.{ℕ, ◌*◌, ◌≤◌}
use borrow.Author.Tests.{le-leb}
use lib.IntN.{ℤ}
use lib.ListN.{length, replicate}
use Rattle.std.specs.Prelude.{Result, Ok, Err}
use Rattle.refusals.specs.declared.Refusal.{Refusal}
use Rattle.refusals.specs.Refusals.{Test, status, written}
use Rattle.refusals.specs.Numbers.{Answer, answer, status_of, told}
use Rattle.refusals.proofs.Refusals.{has, ◌then◌, left}
use Rattle.plane.specs.Plane.{blocks, measured, plane_coefficients, forward_tests}
use Rattle.plane.specs.Scale.{full, plane_samples, recoded, plane_inverse_tests}
use Rattle.plane.specs.Ready.{PlaneOf}
use Rattle.plane.proofs.Scales.{cropped-full}
use Rattle.recode_pgm.specs.Recode.{recoded_by_one}

-- the status of a call by its tests
pub answer-status : {A : Type 0} (ts : List Test) (value zero : A) (r : Result A Refusal) → told zero r ≡ answer ts value zero → status_of r ≡ status ts
answer-status ts value zero (Ok x) e = ap (λ (a : Answer _). a.status) e
answer-status ts value zero (Err d) e = ap (λ (a : Answer _). a.status) e

in-range : (n : ℕ) → 1 ≤ n → n ≤ 4096 → measured n ≡ true
unfolding measured
in-range n a b = simp (le-leb 1 n a, le-leb n 4096 b)

module _ (samples : List ℕ) (w h : ℕ) (p : PlaneOf samples w h) where
  coded : (room : List ℤ) → length room ≡ 64 * (blocks w * blocks h) → {r : ℕ} {cs : List ℤ} →
      (r ≡ status (forward_tests samples w h (replicate 64 1) room)) × (cs ≡ written r (plane_coefficients samples w h (replicate 64 1)) room) →
      cs ≡ plane_coefficients samples w h (replicate 64 1)
  unfolding forward_tests
  coded room l e = left _ _ _ (in-range w p.w-some p.w-most then in-range h p.h-some p.h-most then has p.long then refl then has l then tt) e

  decoded : (cs : List ℤ) (out : List ℕ) → length cs ≡ 64 * (blocks w * blocks h) → length out ≡ w * h → {r : ℕ} {held : List ℕ} →
      (r ≡ status (plane_inverse_tests full cs w h (replicate 64 1) out)) × (held ≡ written r (plane_samples full cs w h (replicate 64 1)) out) →
      held ≡ plane_samples full cs w h (replicate 64 1)
  unfolding plane_inverse_tests
  decoded cs out l k e =
      left _ _ _
      (in-range w p.w-some p.w-most then in-range h p.h-some p.h-most then has l then refl then has (k ∙ sym (λ i. cropped-full w i * cropped-full h i)) then tt)
      e

  pub both : (room : List ℤ) (out : List ℕ) → length room ≡ 64 * (blocks w * blocks h) → length out ≡ w * h → {r s : ℕ} {cs : List ℤ} {held : List ℕ} → length cs ≡ length room →
      (r ≡ status (forward_tests samples w h (replicate 64 1) room)) × (cs ≡ written r (plane_coefficients samples w h (replicate 64 1)) room) →
      (s ≡ status (plane_inverse_tests full cs w h (replicate 64 1) out)) × (held ≡ written s (plane_samples full cs w h (replicate 64 1)) out) →
      held ≡ recoded_by_one samples w h
  unfolding recoded_by_one recoded
  both room out l k {cs = cs} m d e = decoded cs out (m ∙ l) k e ∙ ap (λ (xs : List ℤ). plane_samples full xs w h (replicate 64 1)) (coded room l d)
