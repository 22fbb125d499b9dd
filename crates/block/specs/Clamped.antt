-- Document 02, card 4: "The 8-bit blocks of every kind [..] return how many samples were raised and how many lowered".
use Rattle.std.specs.Prelude.{List, ℕ, ◌/◌, ◌%◌, ℤ}
use Rattle.refusals.specs.Refusals.{Test}
use Rattle.refusals.specs.Numbers.{Answer, answer}
use Rattle.clamping.specs.Counts.{raised_one, lowered_one, counted}
use Rattle.passes.specs.Passes.{Size, column_pass, row_pass}
use Rattle.block.specs.Block.{samples}
use Rattle.block.specs.declared.Clamped.{Clamped}

-- a number as it is, before the clamp
abbrev pub itself : ℤ → ℤ
itself v = v

-- the numbers of the 8-bit block of a size before the clamp, row by row: its samples are `sample_u8` of each (`block-unclamped`)
unfoldable pub unclamped : Size → List ℤ → List ℤ
unclamped z xs = samples (column_pass z) (row_pass z) itself z.side xs

unfoldable pub block_raised : Size → List ℤ → ℕ
block_raised z xs = counted raised_one (unclamped z xs)

unfoldable pub block_lowered : Size → List ℤ → ℕ
block_lowered z xs = counted lowered_one (unclamped z xs)

-- the counts of samples whose numbers before the clamp are vs
unfoldable pub counts_of : List ℤ → Clamped
counts_of vs = record { raised = counted raised_one vs; lowered = counted lowered_one vs }

-- what a refused call answers by value
abbrev pub no_counts : Clamped
no_counts = record { raised = 0; lowered = 0 }

-- what a call with the tests ts answers: the counts, or, where it is refused, zero
abbrev pub clamped_answer : List Test → ℕ → ℕ → Answer Clamped
clamped_answer ts raised lowered = answer ts (record { raised = raised; lowered = lowered }) no_counts

-- the counts by the number that has both in it (`tally_one`)
abbrev pub clamped_by : ℕ → Clamped
clamped_by tally = record { raised = tally % 256; lowered = tally / 256 }
