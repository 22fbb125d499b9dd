-- Document 01, "Refusing calls": "A refusal returns its number [..] and no output place is written. A result carries the number 0.
-- The tests run in the order given." A call's status is 0 or its refusal's number.
use Rattle.std.specs.Prelude.{Bool, cond, List, [], ◌∷◌, ℕ, eqb, length}

-- a test of a call, and the number of its refusal
pub record Test : Type 0 where
  pub number : ℕ
  pub passes : Bool

infix 70 ◌unless◌
abbrev pub ◌unless◌ : ℕ → Bool → Test
◌unless◌ n p = record { number = n; passes = p }

-- a slice has n places
infix 80 ◌of◌
abbrev pub ◌of◌ : {A : Type 0} → List A → ℕ → Bool
◌of◌ xs n = eqb (length xs) n

-- the number of the first test that fails, or 0
unfoldable pub status : List Test → ℕ
status [] = 0
status (t ∷ ts) = cond t.passes (status ts) t.number

-- what a lent place holds after the call, by its status: the value, or, where the call is refused, what it held before. For what an
-- answer holds by value, `held` is zero
unfoldable pub written : {A : Type 0} → ℕ → A → A → A
written status value held = cond (eqb status 0) value held

-- the lengths that several calls share: 1, a block not of 64 places; 2, a table not of 64; 3, an output not of 64
abbrev pub block_tests : {A B C : Type 0} → List A → List B → List C → List Test
block_tests block quant out = 1 unless block of 64 ∷ 2 unless quant of 64 ∷ 3 unless out of 64 ∷ []
