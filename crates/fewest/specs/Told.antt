-- What the call's result says in the paper's terms.
use Rattle.std.specs.Prelude.{ℕ, Option, Some, None, Result, Ok, Err}
use Rattle.refusals.specs.declared.Refusal.{Refusal}
use Rattle.refusals.specs.Numbers.{number}
use Rattle.fewest.specs.Fewest.{Found, NoneGood, Good, Fewest}
use Rattle.fewest.specs.declared.Fewest.{Fewest as Answered}

-- "or 'none tried is good'"
abbrev pub found_in : Option ℕ → Found
found_in (Some p) = Good p
found_in None = NoneGood

abbrev pub told : Result Answered Refusal → Fewest
told (Ok r) = record { status = 0; found = found_in r.found; off = r.off; trials = r.trials }
told (Err e) = record { status = number e; found = NoneGood; off = 0; trials = 0 }
