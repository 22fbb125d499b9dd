-- Document 01, "Added by design": the lines in which 64 numbers are printed.
use Rattle.std.specs.Prelude.{cond, List, [], ◌∷◌, ◌++◌, ℕ, zero, suc, ◌+◌, ◌/◌, ◌%◌, eqb, ltb, get_or, ℤ, pos, negsuc}

-- the numeral digits of n in ASCII, at most k of them: those of n / 10 where n has more than one, then the last
unfoldable pub digits : ℕ → ℕ → List ℕ
digits zero n = []
digits (suc k) n = cond (ltb n 10) [] (digits k (n / 10)) ++ ((48 + n % 10) ∷ [])

-- a 16-bit number in numeral: "-" (45) where it is negative, then at most five digits
unfoldable pub numeral : ℤ → List ℕ
numeral (pos n) = digits 5 n
numeral (negsuc n) = 45 ∷ digits 5 (suc n)

-- "eight numbers by rising u, one space between", and a newline (10) after u = 7; the number n is that of 8v + u
unfoldable pub separator : ℕ → ℕ
separator n = cond (eqb (n % 8) 7) 10 32

-- the first n numbers of a list
unfoldable pub numbers : List ℤ → ℕ → List ℕ
numbers cs zero = []
numbers cs (suc n) = numbers cs n ++ (numeral (get_or cs n (pos 0)) ++ (separator n ∷ []))
