use mathlib.Core.Path.{ap, ◌∙◌}
use Prim.Native.Nat.{ℕ, ◌%◌, ◌^◌}
use native.Mathlib.Nat.{mod-lt}
use lib.Dec.{lit<}
use mir.Syntax.{w32, w64}
use mir.Val.{to_z, of_z}
use mir.ValLaws.{to_z-of_z}
use Rattle.integers.proofs.Wrap.{wrap-read}
use Rattle.idct_12bit.proofs.Small.{low_bits}
use Rattle.idct_12bit.proofs.samples_12bit.low_32.Goals as goal

pub returns : goal.returns
returns c =
    let bits = c.cast_unsigned.ensures ∙ ap (of_z w64) (to_z-of_z w64 c.args.x c.ranges.x) in
    wrap-read w32 c.args.x (c.cast_signed.ensures ∙ ap (λ (n : ℕ). to_z w32 (n % 2 ^ 32)) bits ∙ low_bits c.args.x c.ranges.x)

pub overflow_cast-cast_unsigned : goal.overflow_cast-cast_unsigned
overflow_cast-cast_unsigned c = record { fits = mod-lt c.cast_unsigned.result (lit< tt) }
