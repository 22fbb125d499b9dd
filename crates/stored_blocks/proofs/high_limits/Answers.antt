use mathlib.Core.Path.{◌≡◌, sym, ap}
use Prim.Native.Nat.{ℕ, ◌/◌, ◌^◌}
use lib.IntN.{ℤ, pos}
use Rattle.lists.specs.Tab.{tab}
use Rattle.lists.proofs.Tab.{tab-ext}
use Rattle.basis.specs.Cosine.{cosines}
use Rattle.basis.specs.Basis.{reduced, cosine_of, negated, signed, factor, entry, reflected, mirrors, basis}
use Rattle.forward.specs.Sum.{total}
use Rattle.stored_blocks.specs.Screen.{high_limits}
use Rattle.stored_blocks.proofs.Extent.{weighed, extent, high-size}
use Rattle.stored_blocks.proofs.high_limits.Goals as goal

abbrev limit : ℕ → ℤ
limit e = pos (e / 2 ^ 31)

-- by the sums of the basis in numbers
in-numbers : tab 64 (λ n. limit (extent 127 128 n)) ≡ high_limits
unfolding high_limits
in-numbers = tab-ext 64 _ _ (λ n h. ap limit (sym (high-size n)))

pub returns : goal.returns
unfolding tab total weighed extent cosines reduced cosine_of negated signed factor entry reflected mirrors basis
returns c = in-numbers
