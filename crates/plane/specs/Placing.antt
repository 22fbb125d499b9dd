-- What the steps of the plane inverse may count on, and what a picture holds after one of its blocks was written.
use Rattle.std.specs.Prelude.{◌≡◌, List, ℕ, ◌*◌, ◌/◌, ◌%◌, ◌≤◌, ◌<◌, length, ℤ}
use Rattle.lists.specs.Grid.{at}
use Rattle.plane.specs.Plane.{blocks}
use Rattle.plane.specs.Scale.{Scale, cropped}

-- coefficients, a table and an output that the call of a scale does not refuse
pub record StoredOf (s : Scale) (cs : List ℤ) (w h : ℕ) (quant out : List ℕ) : Type 0 where
  pub w-some : 1 ≤ w
  pub w-most : w ≤ 4096
  pub h-some : 1 ≤ h
  pub h-most : h ≤ 4096
  pub long : length cs ≡ 64 * (blocks w * blocks h)
  pub quant-long : length quant ≡ 64
  pub out-long : length out ≡ cropped s w * cropped s h

-- the block of m×m in column x and row y of blocks begins inside a picture of w × h
pub record Begins (m w h x y : ℕ) (out : List ℕ) : Type 0 where
  pub m-some : 1 ≤ m
  pub m-most : m ≤ 8
  pub w-most : w ≤ 4096
  pub h-most : h ≤ 4096
  pub left : m * x < w
  pub top : m * y < h
  pub long : length out ≡ w * h

-- that block, b, was written to the picture: its samples at its places, as far as they lie in the picture, and all other places as they were
pub record Placed (m w h x y : ℕ) (b old new : List ℕ) : Type 0 where
  pub long : length new ≡ w * h
  pub inside : (i j : ℕ) → i < w → j < h → i / m ≡ x → j / m ≡ y → at 0 w new i j ≡ at 0 m b (i % m) (j % m)
  pub kept : (i j : ℕ) → i < w → j < h → (i / m ≡ x → j / m ≡ y → ⊥) → at 0 w new i j ≡ at 0 w old i j
