-- An array that a pure closure makes, by its elements. Assumes nothing.
use Prim.Native.Nat.{ℕ, zero, suc, ◌+◌, ◌≤◌, ◌<◌}
use mathlib.Core.Path.{◌≡◌, refl, subst, ◌∙◌}
use mathlib.Core.List.{List}
use native.Mathlib.Decide.{ℕ_discrete}
use native.Mathlib.Omega.{arith}
use denote.Param.Members.{Mut, Called}
use lib.ListN.{get_or}
use Rattle.std.specs.Array.{IsFromFnResultFrom, IsFromFnResult}
use Rattle.lists.specs.Tab.{tab}
use Rattle.lists.proofs.Tab.{by-elements}

module _ {F B : Type 0} (g : Mut F (ℕ × Unit {0}) B) (f : F) (n : ℕ) (h : ℕ → B) (pure : (i : ℕ) → i < n → (y : B) (q : F) → Called g f (i, tt) y q → (q ≡ f) × (y ≡ h i)) where
  each : (m i : ℕ) → i + m ≤ n → (p : F) (ys : List B) → p ≡ f → IsFromFnResultFrom g p ys i m → (d : B) (k : ℕ) → i ≤ k → k < i + m → get_or ys k d ≡ h k
  each zero i l p ys e r d k a b = absurd (omega arith)
  each (suc m) i l p ys e r d k a b =
      let one = pure i (omega arith) r.1 r.0 (subst (λ (s : F). Called g s (i, tt) r.1 r.0) e r.3) in
      go one (each m (i + 1) (omega arith) r.0 ys one.0 r.4 d k) (ℕ_discrete i k)
    where
      go : (r.0 ≡ f) × (r.1 ≡ h i) → (i + 1 ≤ k → k < i + 1 + m → get_or ys k d ≡ h k) → Dec (i ≡ k) → get_or ys k d ≡ h k
      go one rest (yes s) = subst (λ (j : ℕ). get_or ys j d ≡ h j) s (r.2.1 d ∙ one.1)
      go one rest (no s) = rest (omega arith) (omega arith)

  -- `array::from_fn` of a closure that changes nothing and answers h
  pub made : {ys : List B} → IsFromFnResult g f ys n → ys ≡ tab n h
  made {ys} r = by-elements n h (h 0) ys r.long (λ k b. each n 0 (omega arith) f ys refl r.each (h 0) k (omega arith) (omega arith))
