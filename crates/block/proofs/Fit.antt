-- Columns whose numbers fit 16 bits: by the code's tests, of each entry; and their rows by the full pass, at each size.
-- Assumes nothing.
use mathlib.Core.Path.{◌≡◌, ap, ◌∙◌}
use mathlib.Core.Bool.{Bool, true}
use mathlib.Core.List.{List, []}
use Prim.Native.Nat.{ℕ, ◌+◌, ◌^◌, ◌≤◌}
use lib.Dec.{lit<}
use lib.ListN.{length, get_or, take}
use lib.IntN.{ℤ, pos, nat_abs}
use mir.Syntax.{w32}
use Rattle.integers.specs.Fits16.{Fits16, fits16}
use Rattle.integers.proofs.Fits16.{fits16-yes, fits16-abs, fits16-zero}
use Rattle.lists.specs.Every.{every, Every, every-nil}
use Rattle.lists.proofs.Every.{every_holds, every-yes, every-at}
use Rattle.lists.proofs.Tab.{length-tab, get_d-tab}
use Rattle.passes.specs.Passes.{Size, dc, pass, row_pass}
use Rattle.block.specs.Block.{row_of, row_at}

-- what a yes of the tests says: of the first n numbers, of columns
pub first-fit : (xs : List ℤ) (n : ℕ) {t : Bool} → t ≡ every fits16 (take n xs) → t ≡ true → Every Fits16 (take n xs)
first-fit xs n = every-yes fits16 fits16-yes (take n xs)

pub all_fit : (cols : List (List ℤ)) {t : Bool} → t ≡ every (every fits16) cols → t ≡ true → Every (Every Fits16) cols
all_fit cols = every-yes (every fits16) (every_holds fits16 fits16-yes) cols

module _ {cols : List (List ℤ)} (h : Every (Every Fits16) cols) where
  -- each entry of columns that fit
  pub entry-fits : (u y : ℕ) → Fits16 (get_or (get_or cols u []) y (pos 0))
  entry-fits u y = every-at (every-at h [] every-nil u) (pos 0) fits16-zero y

  -- row p of them, by the full pass
  pub row_fits : (z : Size) → ((p : List ℤ) → length p ≡ 8 → nat_abs (dc p) ≤ 2 ^ 15 → pass w32 z.matrix (18 + z.extra) p ≡ row_pass z p) →
      (y : ℕ) {p r : List ℤ} → p ≡ row_of cols y → r ≡ pass w32 z.matrix (18 + z.extra) p → r ≡ row_pass z (row_of cols y)
  unfolding row_at
  row_fits z full y e f =
      let first : dc (row_of cols y) ≡ get_or (get_or cols 0 []) y (pos 0) = get_d-tab 8 (λ u. get_or (get_or cols u []) y (pos 0)) (pos 0) 0 (lit< tt) in
      f ∙ ap (pass w32 z.matrix (18 + z.extra)) e ∙ full (row_of cols y) (length-tab 8 _) (rw first (fits16-abs _ (entry-fits 0 y)))
