-- Document 01, leaf 2: the gains of the 1-D transforms. Output j is the sum over k of gain[j][k]·p[k].
use Rattle.std.specs.Prelude.{List, [], ◌∷◌, ◌++◌, map, reverse, ℕ, max, ℤ, pos, neg_ℤ, nat_abs}
use Rattle.integers.specs.Linear.{weight}

abbrev pub neg : ℕ → ℤ
neg n = neg_ℤ (pos n)

-- a row with odd k negated
unfoldable pub mirror : List ℤ → List ℤ
mirror [] = []
mirror (a ∷ []) = a ∷ []
mirror (a ∷ b ∷ row) = a ∷ neg_ℤ b ∷ mirror row

-- the first half of the rows is given; row n - 1 - j is row j with odd k negated
unfoldable pub mirrored : List (List ℤ) → List (List ℤ)
mirrored rows = rows ++ reverse (map mirror rows)

-- rows 0 to 3 of the 8-point transform, k from 0, in units of 2^-13
unfoldable pub upper : List (List ℤ)
upper =
    (pos 8192 ∷ pos 11363 ∷ pos 10703 ∷ pos 9633 ∷ pos 8192 ∷ pos 6437 ∷ pos 4433 ∷ pos 2260 ∷ [])
    ∷ (pos 8192 ∷ pos 9633 ∷ pos 4433 ∷ neg 2259 ∷ neg 8192 ∷ neg 11362 ∷ neg 10704 ∷ neg 6436 ∷ [])
    ∷ (pos 8192 ∷ pos 6437 ∷ neg 4433 ∷ neg 11362 ∷ neg 8192 ∷ pos 2261 ∷ pos 10704 ∷ pos 9633 ∷ [])
    ∷ (pos 8192 ∷ pos 2260 ∷ neg 10703 ∷ neg 6436 ∷ pos 8192 ∷ pos 9633 ∷ neg 4433 ∷ neg 11363 ∷ [])
    ∷ []

unfoldable pub gains : List (List ℤ)
gains = mirrored upper

-- the half transform, in units of 2^-14. With E = 16384·p0, F = 15137·p2 - 6270·p6,
-- A = -4176·p7 - 4926·p5 + 7373·p3 + 20995·p1 and B = -1730·p7 + 11893·p5 - 17799·p3 + 8697·p1 its outputs are
-- E+F+A, E-F+B, E-F-B, E+F-A
unfoldable pub upper4 : List (List ℤ)
upper4 =
    (pos 16384 ∷ pos 20995 ∷ pos 15137 ∷ pos 7373 ∷ pos 0 ∷ neg 4926 ∷ neg 6270 ∷ neg 4176 ∷ [])
    ∷ (pos 16384 ∷ pos 8697 ∷ neg 15137 ∷ neg 17799 ∷ pos 0 ∷ pos 11893 ∷ pos 6270 ∷ neg 1730 ∷ [])
    ∷ []

unfoldable pub gains4 : List (List ℤ)
gains4 = mirrored upper4

-- the quarter, in units of 2^-15: 32768·p0 plus, then minus, (-5906·p7 + 6967·p5 - 10426·p3 + 29692·p1)
unfoldable pub upper2 : List (List ℤ)
upper2 = (pos 32768 ∷ pos 29692 ∷ pos 0 ∷ neg 10426 ∷ pos 0 ∷ pos 6967 ∷ pos 0 ∷ neg 5906 ∷ []) ∷ []

unfoldable pub gains2 : List (List ℤ)
gains2 = mirrored upper2

-- the entries of p that the half and the quarter transform do not read
abbrev pub skipped4 : List ℕ
skipped4 = 4 ∷ []

abbrev pub skipped2 : List ℕ
skipped2 = 2 ∷ 4 ∷ 6 ∷ []

-- the largest of a list of numbers
unfoldable pub maximum : List ℕ → ℕ
maximum [] = 0
maximum (n ∷ ns) = max n (maximum ns)

-- the largest absolute value of a gain
unfoldable pub largest_gain : List (List ℤ) → ℕ
largest_gain rows = maximum (map (λ (row : List ℤ). maximum (map nat_abs row)) rows)

-- the largest sum of the absolute values of one row's gains
unfoldable pub largest_l1 : List (List ℤ) → ℕ
largest_l1 rows = maximum (map weight rows)
