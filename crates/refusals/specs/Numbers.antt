-- The number of each refusal (documents 01 and 02). Document 01: "Where an answer is an enum, a definition sets out this paper's
-- number and values for each of its cases", and "A refusal returns its number; anything else that its answer holds by value [..] is
-- zero [..] A result carries the number 0."
use Rattle.std.specs.Prelude.{ℕ, Result, Ok, Err, List}
use Rattle.refusals.specs.declared.Refusal.{Refusal}
use Rattle.refusals.specs.declared.Refusal.TheVariants.{Block, Table, Output, Index, ZeroQuantizer, Shift, Input, Measure, Samples, Picture, Percent, Sample, State, Full, Divisors, Heights, Seam}
use Rattle.refusals.specs.Refusals.{Test, status, written}

abbrev pub number : Refusal → ℕ
number Block = 1
number Table = 2
number Output = 3
number Index = 4
number ZeroQuantizer = 5
number Shift = 6
number Input = 7
number Measure = 8
number Samples = 9
number Picture = 10
number Percent = 11
number Sample = 12
number State = 13
number Full = 14
number Divisors = 15
number Heights = 16
number Seam = 17

-- what a call answers: its status, and what it holds by value
pub record Answer (A : Type 0) : Type 0 where
  pub status : ℕ
  pub value : A

-- the answer of a call with these tests, that value and that zero
abbrev pub answer : {A : Type 0} → List Test → A → A → Answer A
answer tests value zero = record { status = status tests; value = written (status tests) value zero }

-- what a result says
abbrev pub status_of : {A : Type 0} → Result A Refusal → ℕ
status_of (Ok x) = 0
status_of (Err e) = number e

abbrev pub told : {A : Type 0} → A → Result A Refusal → Answer A
told zero (Ok x) = record { status = 0; value = x }
told zero (Err e) = record { status = number e; value = zero }
