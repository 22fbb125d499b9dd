-- What the program writes behind the header, strip by strip, is the whole picture, coded and decoded.
-- Assumes nothing.
use mathlib.Core.Path.{◌≡◌}
use mathlib.Core.List.{List}
use Prim.Native.Nat.{ℕ, ◌<◌}
use lib.ListN.{replicate}
use Rattle.lists.specs.Tab.{in_turn}
use Rattle.plane.specs.Plane.{blocks}
use Rattle.plane.specs.Strips.{strip_rows, strip}
use Rattle.plane.proofs.Strips.{strips-all}
use Rattle.recode_pgm.specs.Recode.{recoded_by_one}

pub picture : (samples : List ℕ) (w h : ℕ) → 0 < w → in_turn (blocks h) (λ s. recoded_by_one (strip samples w h s) w (strip_rows h s)) ≡ recoded_by_one samples w h
unfolding recoded_by_one
picture samples w h some = strips-all samples w h some (replicate 64 1)
