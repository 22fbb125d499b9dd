use mathlib.Core.Path.{◌≡◌, sym, ap}
use Prim.Native.Nat.{ℕ, ◌/◌, ◌^◌}
use lib.IntN.{ℤ, pos, neg_ℤ}
use Rattle.lists.specs.Tab.{tab}
use Rattle.lists.proofs.Tab.{tab-ext}
use Rattle.basis.specs.Cosine.{cosines}
use Rattle.basis.specs.Basis.{reduced, cosine_of, negated, signed, factor, entry, reflected, mirrors, basis}
use Rattle.forward.specs.Sum.{total}
use Rattle.stored_blocks.specs.Screen.{low_limits}
use Rattle.stored_blocks.proofs.Extent.{weighed, extent, low-size}
use Rattle.stored_blocks.proofs.low_limits.Goals as goal

abbrev limit : ℕ → ℤ
limit e = neg_ℤ (pos (e / 2 ^ 31))

-- by the sums of the basis in numbers
in-numbers : tab 64 (λ n. limit (extent 128 127 n)) ≡ low_limits
unfolding low_limits
in-numbers = tab-ext 64 _ _ (λ n h. ap limit (sym (low-size n)))

pub returns : goal.returns
unfolding tab total weighed extent cosines reduced cosine_of negated signed factor entry reflected mirrors basis
returns c = in-numbers
