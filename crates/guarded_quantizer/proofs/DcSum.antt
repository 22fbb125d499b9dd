-- The sums of 64 equal samples: the DC is a multiple of the sample, and every AC is zero.
-- Assumes nothing.
use Rattle.std.specs.Prelude.{◌≡◌, ℕ, ◌^◌, ◌<◌, true, T, eqb, List, get_or, pos, ◌-ℤ◌, ◌*ℤ◌}
use mathlib.Core.Path.{sym, subst}
use native.Mathlib.Omega.{arith}
use lib.Dec.{eqb→eq}
use Rattle.lists.proofs.Below.{below_at}
use Rattle.forward.specs.Forward.{scaled_sum}
use Rattle.forward.proofs.Equal.{equal-sum, equal-ac}
use Rattle.guarded_quantizer.specs.Constant.{constant}

module _ (block : List ℕ) (e : constant block ≡ true) where
  equal : (i : ℕ) → i < 64 → get_or block i 0 ≡ get_or block 0 0
  unfolding constant
  equal i h = eqb→eq _ _ (below_at 64 (λ n. eqb (get_or block n 0) (get_or block 0 0)) (subst T (sym e) tt) i h)

  pub constant-sum : scaled_sum 128 block 0 ≡ (pos (get_or block 0 0) -ℤ pos 128) *ℤ pos (2 ^ 35)
  constant-sum = equal-sum 128 (get_or block 0 0) 0 (omega arith) block equal

  pub constant-ac : (n : ℕ) → n < 64 → 0 < n → scaled_sum 128 block n ≡ pos 0
  constant-ac n h = equal-ac 128 (get_or block 0 0) n h block equal
