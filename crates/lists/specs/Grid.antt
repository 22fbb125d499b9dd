-- Numbers in rows: the place (x, y) of rows of w stands at index w·y + x. Samples of a plane, samples of a block, coefficients of a plane
-- (64 to a block) and rows of blocks all lie so.
use Rattle.std.specs.Prelude.{cond, List, ℕ, ◌+◌, ◌-◌, ◌*◌, ◌/◌, ◌%◌, ltb, get_or}
use Rattle.lists.specs.Tab.{tab}

-- h rows of w, by what stands at each place
unfoldable pub grid : {A : Type 0} → ℕ → ℕ → (ℕ → ℕ → A) → List A
grid w h f = tab (w * h) (λ i. f (i % w) (i / w))

-- what stands at (x, y) of a list in rows of w
abbrev pub at : {A : Type 0} → A → ℕ → List A → ℕ → ℕ → A
at d w l x y = get_or l (w * y + x) d

-- rows of p beside rows of q: each row is the left's and then the right's
unfoldable pub beside : {A : Type 0} → A → ℕ → ℕ → ℕ → List A → List A → List A
beside d p q h left right = grid (p + q) h (λ x y. cond (ltb x p) (at d p left x y) (at d q right (x - p) y))

-- a picture of m×m blocks b 0, b 1, .., a of them in a row: what stands at (x, y)
unfoldable pub tiled : {A : Type 0} → A → ℕ → ℕ → (ℕ → List A) → ℕ → ℕ → A
tiled d m a b x y = at d m (b (a * (y / m) + x / m)) (x % m) (y % m)
