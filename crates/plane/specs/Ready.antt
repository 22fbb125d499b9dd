-- What the step for one block of a plane may count on.
use Rattle.std.specs.Prelude.{◌≡◌, List, ℕ, ◌*◌, ◌≤◌, length}

-- a plane that no call refuses: "width and height 1 to 4096", and as many samples
pub record PlaneOf (samples : List ℕ) (w h : ℕ) : Type 0 where
  pub w-some : 1 ≤ w
  pub w-most : w ≤ 4096
  pub h-some : 1 ≤ h
  pub h-most : h ≤ 4096
  pub long : length samples ≡ w * h
