-- Document 01, leaf 1: scaling.
use Rattle.std.specs.Prelude.{ℕ, ◌-◌, ◌^◌, ◌&&◌, List, [], ◌∷◌, ℤ, pos, nat_abs, ◌+ℤ◌}
use Rattle.std.specs.Int.Signed.{le_z}
use Rattle.std.specs.Int.{Width, w32}
use Rattle.integers.specs.Wrap.{wrap}
use Rattle.integers.specs.Floor.{floor_div}
use Rattle.refusals.specs.Refusals.{Test, ◌unless◌}
use Rattle.refusals.specs.Numbers.{Answer, answer}

-- v + 2^(s-1), wrapped to w's signed bits, then floor division by 2^s
unfoldable pub descaled : Width → ℤ → ℕ → ℤ
descaled w v s = floor_div (wrap w (v +ℤ pos (2 ^ (s - 1)))) (2 ^ s)

-- "`descale`: 6, shift outside 1..31"; a refusal's value is 0
abbrev pub shift_tests : ℤ → List Test
shift_tests s = 6 unless (le_z (pos 1) s && le_z s (pos 31)) ∷ []

-- what `descale(v, s)` answers
abbrev pub descale_answer : ℤ → ℤ → Answer ℤ
descale_answer v s = answer (shift_tests s) (descaled w32 v (nat_abs s)) (pos 0)
