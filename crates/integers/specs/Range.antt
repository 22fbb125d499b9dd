-- The whole numbers from one to another.
use Rattle.std.specs.Prelude.{Bool, false, cond, ◌||◌, ℕ, zero, suc, ℤ, pos, nat_abs, ◌+ℤ◌, ◌-ℤ◌, ◌≤ℤ◌}
use Rattle.std.specs.Int.Signed.{le_z}

-- some whole number from a to b has the property P
pub record Some (a b : ℤ) (P : ℤ → Type 0) : Type 0 where
  pub number : ℤ
  pub from : a ≤ℤ number
  pub to : number ≤ℤ b
  pub has : P number

-- f holds at one of a, a + 1, .. a + (k - 1)
unfoldable pub some_of : ℕ → ℤ → (ℤ → Bool) → Bool
some_of zero a f = false
some_of (suc k) a f = f (a +ℤ pos k) || some_of k a f

-- the test: f holds at some whole number from a to b. `some-yes` and `some-all` of proofs/Range.antt say that its yes and the predicate
-- are one.
unfoldable pub some_from : ℤ → ℤ → (ℤ → Bool) → Bool
some_from a b f = some_of (cond (le_z a b) (suc (nat_abs (b -ℤ a))) 0) a f
