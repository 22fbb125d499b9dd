-- The entries that the half and the quarter transform do not read play no part, at any width.
-- Assumes nothing.
use mathlib.Core.Path.{◌≡◌}
use mathlib.Core.Bool.{false}
use mathlib.Core.List.{List}
use Prim.Native.Nat.{ℕ}
use lib.ListN.{get_or}
use lib.IntN.{ℤ, pos}
use mir.Syntax.{Width}
use Rattle.integers.specs.Linear.{listed, zero_at, blank, transform}
use Rattle.integers.proofs.Agree.{transform-agree}
use Rattle.gains.specs.Gains.{mirror, mirrored, upper4, gains4, skipped4, upper2, gains2, skipped2}

-- xs and ys agree but for the entries ks
abbrev pub AgreeBut : List ℕ → List ℤ → List ℤ → Type 0
AgreeBut ks xs ys = (k : ℕ) → listed ks k ≡ false → get_or xs k (pos 0) ≡ get_or ys k (pos 0)

pub four-point-reads : (w : Width) (xs ys : List ℤ) → AgreeBut skipped4 xs ys → transform w gains4 xs ≡ transform w gains4 ys
unfolding zero_at blank mirror mirrored upper4 gains4
four-point-reads w xs ys h = transform-agree skipped4 xs ys h w gains4 tt

pub two-point-reads : (w : Width) (xs ys : List ℤ) → AgreeBut skipped2 xs ys → transform w gains2 xs ≡ transform w gains2 ys
unfolding zero_at blank mirror mirrored upper2 gains2
two-point-reads w xs ys h = transform-agree skipped2 xs ys h w gains2 tt
