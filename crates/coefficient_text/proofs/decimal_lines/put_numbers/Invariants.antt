use Prim.Native.Nat.{◌*◌}
use Rattle.coefficient_text.specs.Stores.{Wrote}
use Rattle.coefficient_text.specs.Lines.{numbers}
use Rattle.coefficient_text.proofs.decimal_lines.put_numbers.Given as goal

abbrev pub invariant-loop-n : goal.invariant-loop-n
invariant-loop-n l = Wrote (7 * l.n) l.initial.out 0 (numbers l.cs l.n) l.out l.at
