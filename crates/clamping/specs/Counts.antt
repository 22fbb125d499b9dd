-- Document 02, card 4: "how many samples were raised and how many lowered; the two counts are defined from the rule at each place", over
-- the list of the numbers before the clamp.
use Rattle.std.specs.Prelude.{List, [], ◌∷◌, ℕ, ◌+◌, ◌*◌, ℤ}
use Rattle.clamping.specs.Rule.{rule_u8}
use Rattle.clamping.specs.declared.Rule.{Rule}
use Rattle.clamping.specs.declared.Rule.TheVariants.{Raised, Lowered, Within}

-- what a place adds to the number of raised samples, by its rule
abbrev pub raised_one : Rule → ℕ
raised_one Raised = 1
raised_one Lowered = 0
raised_one Within = 0

-- and to that of lowered ones
abbrev pub lowered_one : Rule → ℕ
lowered_one Raised = 0
lowered_one Lowered = 1
lowered_one Within = 0

-- the sum of what each of some numbers adds
unfoldable pub counted : (Rule → ℕ) → List ℤ → ℕ
counted one [] = 0
counted one (v ∷ vs) = one (rule_u8 v) + counted one vs

-- both counts in one number, as the code adds them up
abbrev pub tally_one : Rule → ℕ
tally_one r = raised_one r + 256 * lowered_one r
