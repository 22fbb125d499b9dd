-- Eight rows are one row of blocks.
use Rattle.std.proofs.Common.{◌≡◌, ℕ, ◌+◌, ◌*◌, ◌/◌, ◌≤◌, ◌∙◌, arith}
use lib.Seq.{length-take-le}
use Rattle.plane.specs.Plane.{blocks}
use Rattle.recode_pgm.proofs.strip.recode_strip.Goals as goal

one-row : (w h : ℕ) → 1 ≤ h → h ≤ 8 → 64 * ((w + 7) / 8) ≡ 64 * (blocks w * blocks h)
unfolding blocks
one-row w h a b = let e : (h + 7) / 8 ≡ 1 = omega arith in rw e (omega arith)

pub recode_through-requires-clause-coefficients_len :
    goal.recode_through-requires-clause-coefficients_len
recode_through-requires-clause-coefficients_len c =
    (length-take-le _ _ (omega (arith, c.requires.plane_of.w-most)) ∙ one-row _ _ c.requires.plane_of.h-some c.requires.rows_bound.0, c.requires.rows_bound.1)
