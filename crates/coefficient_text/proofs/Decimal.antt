-- A number digit by digit, its sign, and one number more of a text.
-- Assumes nothing.
use mathlib.Core.Path.{◌≡◌, refl}
use mathlib.Core.Bool.{true, false, cond}
use mathlib.Core.List.{List, [], ◌∷◌, ◌++◌}
use Prim.Native.Nat.{ℕ, zero, suc, ◌+◌, ◌-◌, ◌/◌, ◌%◌, ◌≤◌, ◌<◌}
use native.Mathlib.Numerals.{add-one}
use native.Mathlib.Omega.{arith}
use borrow.Author.Tests.{lt-ltb, le-ltb, ltb-true}
use lib.Dec.{ltb}
use lib.IntN.{ℤ, pos, negsuc, nat_abs}
use lib.ListN.{get_or}
use lib.Signed.{lt_z}
use mir.Syntax.{w16}
use mir.Val.{SFits}
use Rattle.coefficient_text.specs.Lines.{digits, numeral, separator, numbers}

-- the digits above the last, where there are any
abbrev pub above : ℕ → ℕ → List ℕ
above k n = cond (ltb n 10) [] (digits (k - 1) (n / 10))

pub above-none : (k n : ℕ) → n < 10 → above k n ≡ []
above-none k n h = rw (lt-ltb n 10 h)

pub above-some : (k n : ℕ) → 10 ≤ n → above k n ≡ digits (k - 1) (n / 10)
above-some k n h = rw (le-ltb n 10 h)

pub digits_last : (k n : ℕ) → 0 < k → above k n ++ ((48 + n % 10) ∷ []) ≡ digits k n
unfolding digits
digits_last zero n h = absurd (omega arith)
digits_last (suc k) n h = let e : suc k - 1 ≡ k = omega arith in rw e refl

-- ---- a number with its sign

pub size_small : (z : ℤ) → SFits w16 z → nat_abs z < 100000
size_small (pos n) h = omega (arith, h.sfits)
size_small (negsuc n) h = omega (arith, h.sfits)

-- by the test of the sign
pub decimal-negative : (z : ℤ) → lt_z z (pos 0) ≡ true → (45 ∷ []) ++ digits 5 (nat_abs z) ≡ numeral z
unfolding numeral
decimal-negative (pos n) t = let l : n < 0 = ltb-true n 0 t in absurd (omega arith)
decimal-negative (negsuc n) t = refl

pub decimal-other : (z : ℤ) → lt_z z (pos 0) ≡ false → digits 5 (nat_abs z) ≡ numeral z
unfolding numeral
decimal-other (pos n) t = refl
decimal-other (negsuc n) t = let e : ◌≡◌ {A = ℕ} 0 1 = cc in absurd (omega arith)

-- ---- one number more

pub numbers_more : (cs : List ℤ) (n : ℕ) {z : ℤ} {s : ℕ} → z ≡ get_or cs n (pos 0) → s ≡ separator n → numbers cs n ++ (numeral z ++ (s ∷ [])) ≡ numbers cs (n + 1)
unfolding numbers
numbers_more cs n e f = rw (e, f, add-one)
