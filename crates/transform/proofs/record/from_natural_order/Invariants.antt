use Prim.Native.Nat.{ℕ}
use mathlib.Core.Path.{◌≡◌}
use mathlib.Core.List.{List}
use lib.ListN.{get_or}
use lib.IntN.{ℤ, pos}
use Rattle.lists.proofs.Tab.{Filled}
use Rattle.guarded_quantizer.specs.Record.{ac_places}
use Rattle.guarded_quantizer.proofs.Bitmap.{up_to, bit_at}
use Rattle.guarded_quantizer.proofs.Record.{ac_at}
use Rattle.transform.proofs.record.from_natural_order.Given as goal

-- the coefficients by their natural index
abbrev pub natural : List ℤ → ℕ → ℤ
natural l n = get_or l n (pos 0)

abbrev pub invariant-loop-z : goal.invariant-loop-z
invariant-loop-z l = Filled (ac_at (natural l.coefficients)) 64 l.z l.ac_coefficients × (l.nonzero_ac ≡ up_to (bit_at (ac_places (natural l.coefficients))) l.z)
