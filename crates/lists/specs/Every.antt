-- What holds of every element of a list, and a test of every element.
use Rattle.std.specs.Prelude.{Bool, true, ◌&&◌, List, [], ◌∷◌}

pub data Every {A : Type 0} (P : A → Type 0) : List A → Type 0 where
  every-nil : Every P []
  every-cons : {x : A} {xs : List A} → P x → Every P xs → Every P (x ∷ xs)

unfoldable pub every : {A : Type 0} → (A → Bool) → List A → Bool
every f [] = true
every f (x ∷ xs) = f x && every f xs
