-- Document 01, "The inverse blocks": the passes over one column or row p of eight numbers, and their zero shortcuts.
use Rattle.std.specs.Prelude.{cond, List, [], ◌∷◌, map, ℕ, ◌+◌, get_or, replicate, ℤ, pos, ◌*ℤ◌}
use Rattle.std.specs.Int.{Width, w32}
use Rattle.integers.specs.Wrap.{wrap}
use Rattle.integers.specs.Linear.{transform, zero_at}
use Rattle.gains.specs.Gains.{gains, gains4, gains2}
use Rattle.scaling.specs.Scaling.{descaled}

-- what differs between the sizes: the samples per side, the gains, the entries besides p0 that are read (the zero test's), and by
-- how much more the shifts scale down
pub record Size : Type 0 where
  pub side : ℕ
  pub matrix : List (List ℤ)
  pub ac : List ℕ
  pub extra : ℕ

unfoldable pub eight : Size
eight = record { side = 8; matrix = gains; ac = 1 ∷ 2 ∷ 3 ∷ 4 ∷ 5 ∷ 6 ∷ 7 ∷ []; extra = 0 }

-- 4×4 ignores entry 4, in its zero test too
unfoldable pub four : Size
four = record { side = 4; matrix = gains4; ac = 1 ∷ 2 ∷ 3 ∷ 5 ∷ 6 ∷ 7 ∷ []; extra = 1 }

-- 2×2 reads entries 0, 1, 3, 5, 7
unfoldable pub two : Size
two = record { side = 2; matrix = gains2; ac = 1 ∷ 3 ∷ 5 ∷ 7 ∷ []; extra = 2 }

-- the gains, each output with `descale` s
unfoldable pub pass : Width → List (List ℤ) → ℕ → List ℤ → List ℤ
pass w rows s p = map (λ (v : ℤ). descaled w v s) (transform w rows p)

-- p0
abbrev pub dc : List ℤ → ℤ
dc p = get_or p 0 (pos 0)

-- a column of the 8-bit transform: one whose other entries are zero gives 4·p0 (wrapped) in each place, else `descale` 11
unfoldable pub column_pass : Size → List ℤ → List ℤ
column_pass z p = cond (zero_at z.ac p) (replicate z.side (wrap w32 (pos 4 *ℤ dc p))) (pass w32 z.matrix (11 + z.extra) p)

-- a row of it: one whose other entries are zero gives (p0 + 16, wrapped) / 32 rounded down, else `descale` 18
unfoldable pub row_pass : Size → List ℤ → List ℤ
row_pass z p = cond (zero_at z.ac p) (replicate z.side (descaled w32 (dc p) 5)) (pass w32 z.matrix (18 + z.extra) p)
