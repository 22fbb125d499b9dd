-- What `digits` writes is the number: read back it is n, and no zero stands in front.
-- Assumes nothing.
use mathlib.Core.Path.{◌≡◌, refl, ◌∙◌}
use mathlib.Core.Bool.{cond}
use mathlib.Core.List.{List, [], ◌∷◌, ◌++◌}
use Prim.Native.Nat.{ℕ, zero, suc, ◌+◌, ◌-◌, ◌*◌, ◌/◌, ◌%◌, ◌^◌, ◌<◌, ◌≤◌}
use native.Mathlib.Decide.{dec_lt}
use native.Mathlib.Omega.{arith}
use borrow.Author.Tests.{lt-ltb, le-ltb}
use lib.Dec.{ltb}
use lib.ListN.{get_or}
use Rattle.coefficient_text.specs.Lines.{digits}

-- the number that ASCII digits stand for, those read so far being n
unfoldable pub read_from : ℕ → List ℕ → ℕ
read_from n [] = n
read_from n (b ∷ bs) = read_from (10 * n + (b - 48)) bs

read-last : (n : ℕ) (bs : List ℕ) (b : ℕ) → read_from n (bs ++ (b ∷ [])) ≡ 10 * read_from n bs + (b - 48)
unfolding read_from
read-last n [] b = refl
read-last n (x ∷ bs) b = read-last (10 * n + (x - 48)) bs b

module _ (k n : ℕ) where
  -- the digits of n / 10, where there are any
  abbrev above : List ℕ
  above = cond (ltb n 10) [] (digits k (n / 10))

  value-step : read_from 0 (digits k (n / 10)) ≡ n / 10 → Dec (n < 10) → read_from 0 above ≡ n / 10
  unfolding read_from
  value-step e (yes l) = rw (lt-ltb n 10 l) (omega arith)
  value-step e (no l) = let m : 10 ≤ n = omega arith in rw (le-ltb n 10 m) e

  last_step : read_from 0 above ≡ n / 10 → read_from 0 (digits (suc k) n) ≡ n
  unfolding digits
  last_step e = read-last 0 above (48 + n % 10) ∙ (let q : 10 * read_from 0 above + (48 + n % 10 - 48) ≡ n = omega (arith, e) in q)

pub digits_value : (k n : ℕ) → n < 10 ^ k → read_from 0 (digits k n) ≡ n
unfolding digits read_from
digits_value zero n h = omega arith
digits_value (suc k) n h =
    let low : n / 10 < 10 ^ k = omega arith in
    last_step k n (value-step k n (digits_value k (n / 10) low) (dec_lt n 10))

-- ---- the first digit of a number above 0 is above `0` (48)

first-append : (xs ys : List ℕ) → 48 < get_or xs 0 0 → 48 < get_or (xs ++ ys) 0 0
first-append [] ys h = absurd (omega arith)
first-append (x ∷ xs) ys h = h

first_step : (k n : ℕ) → 0 < n → (10 ≤ n → 48 < get_or (digits k (n / 10)) 0 0) → Dec (n < 10) → 48 < get_or (digits (suc k) n) 0 0
unfolding digits
first_step k n p e (yes l) = rw (lt-ltb n 10 l) (omega arith)
first_step k n p e (no l) = let m : 10 ≤ n = omega arith in rw (le-ltb n 10 m) (first-append (digits k (n / 10)) _ (e m))

pub no-leading-zero : (k n : ℕ) → 0 < n → n < 10 ^ k → 48 < get_or (digits k n) 0 0
no-leading-zero zero n p h = absurd (omega arith)
no-leading-zero (suc k) n p h =
    let low : n / 10 < 10 ^ k = omega arith in
    first_step k n p (λ m. no-leading-zero k (n / 10) (omega arith) low) (dec_lt n 10)
