use mathlib.Core.Path.{sym}
use Rattle.fewest.proofs.Searching.{best_none, found-next}
use Rattle.fewest.proofs.choice.best_percent.Goals as goal

pub loop-p-init : goal.loop-p-init
loop-p-init c = record { inside = tt; best = sym (best_none _ _ _) }

pub loop-p-preserved : goal.loop-p-preserved
loop-p-preserved c = record { inside = c.better_percent-found.ensures.bounds; best = found-next _ _ _ c.loop-p.p c.loop-p.invariant.best c.better_percent-found.ensures.value }
