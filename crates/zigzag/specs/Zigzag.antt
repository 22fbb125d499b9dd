-- T.81 A.3.6 and figure 5: zigzag order of the coefficients n = 8v + u, u across and v down.
use Rattle.std.specs.Prelude.{cond, ℕ, suc, ◌+◌, ◌/◌, ◌%◌, eqb}
use mathlib.Core.List.{List, [], ◌∷◌, flat_map, reverse}
use Rattle.lists.specs.Tab.{tab}

-- the diagonal u + v = s, downwards
unfoldable pub diagonal : ℕ → List ℕ
diagonal s = flat_map (λ n. cond (eqb (n % 8 + n / 8) s) (n ∷ []) []) (tab 64 (λ n. n))

-- odd diagonals are walked downwards, even ones upwards
unfoldable pub walked : ℕ → List ℕ
walked s = cond (eqb (s % 2) 1) (diagonal s) (reverse (diagonal s))

-- the diagonals 0, 1, .. 14 in turn
unfoldable pub zigzag_order : List ℕ
zigzag_order = flat_map walked (tab 15 (λ s. s))

-- the place of n in a list
unfoldable pub place_in : List ℕ → ℕ → ℕ
place_in [] n = 0
place_in (m ∷ l) n = cond (eqb m n) 0 (suc (place_in l n))

-- the place of each n in zigzag order
unfoldable pub places : List ℕ
places = tab 64 (place_in zigzag_order)
