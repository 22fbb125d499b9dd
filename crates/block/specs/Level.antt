-- Document 01, "The inverse blocks", of a block of which DC alone is not zero: each column and each row takes its zero shortcut, so that one
-- number stands in every place.
use Rattle.std.specs.Prelude.{Bool, List, eqb, ℤ, pos, nat_abs, ◌*ℤ◌}
use Rattle.std.specs.Int.{w32}
use Rattle.integers.specs.Wrap.{wrap}
use Rattle.lists.specs.Every.{every}
use Rattle.scaling.specs.Scaling.{descaled}

-- that number: 4·DC (wrapped), then (that + 16, wrapped) / 32 rounded down
unfoldable pub level : ℤ → ℤ
level dc = descaled w32 (wrap w32 (pos 4 *ℤ dc)) 5

abbrev pub is_zero : ℤ → Bool
is_zero x = eqb (nat_abs x) 0

-- every number is zero
abbrev pub zeros : List ℤ → Bool
zeros xs = every is_zero xs
