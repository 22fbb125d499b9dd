-- A loop that adds up terms that are each at most m. Assumes nothing.
use mathlib.Core.Path.{◌≡◌, refl, ap, ap₂, sym, ◌∙◌}
use Prim.Native.Nat.{ℕ, ◌+◌, ◌*◌, ◌≤◌}
use native.Mathlib.Numerals.{add-one}
use native.Mathlib.Omega.{arith}
use Rattle.forward.specs.Sum.{total}

-- the first k terms are added, of at most m each
pub record Added (f : ℕ → ℕ) (m k s : ℕ) : Type 0 where
  pub sum : s ≡ total k f
  pub most : s ≤ k * m

pub added_none : (f : ℕ → ℕ) (m : ℕ) → Added f m 0 0
unfolding total
added_none f m = record { sum = refl; most = omega arith }

pub added_more : {f : ℕ → ℕ} {m k s : ℕ} → Added f m k s → {r : ℕ} → r ≡ f k → r ≤ m → Added f m (k + 1) (s + r)
unfolding total
added_more {f} {m} {k} a {r} e l = record { sum = ap₂ ◌+◌ a.sum e ∙ sym (ap (λ (n : ℕ). total n f) (add-one k)); most = omega (arith, a.most) }

pub added-all : {f : ℕ → ℕ} {m k s : ℕ} → Added f m k s → (n : ℕ) → k ≡ n → (s ≡ total n f) × (s ≤ n * m)
added-all {f} {m} a n e = (a.sum ∙ ap (λ (j : ℕ). total j f) e, rw (← e) a.most)
