use Prim.Native.Nat.{◌≤◌, ◌^◌}
use mathlib.Core.Path.{◌≡◌, sym, subst}
use mathlib.Core.List.{List}
use native.Mathlib.Omega.{arith}
use borrow.Author.Rules.{rules}
use lib.ListN.{get_or}
use lib.IntN.{ℤ, pos, nat_abs}
use Rattle.lists.specs.Tab.{tab}
use Rattle.lists.proofs.Tab.{get_d-every}
use Rattle.lists.proofs.Made.{made}
use Rattle.forward.specs.Forward.{centred_sum}
use Rattle.forward.proofs.Scaled.{scaled-size}
use Rattle.fdct_block.proofs.block_sums.scaled_sums.Goals as goal

pub returns : goal.returns
returns c =
    let e : c.from_fn.result ≡ tab 64 (centred_sum c.args.samples.now) = made _ _ 64 _ (λ i b y q k. (search rules, search rules)) c.from_fn.ensures.items in
    record {
      value = e;
      by_index = λ n. subst (λ (sums : List ℤ). nat_abs (get_or sums n (pos 0)) ≤ 2 ^ 46) (sym e)
          (get_d-every (λ (z : ℤ). nat_abs z ≤ 2 ^ 46) 64 (centred_sum c.args.samples.now) (pos 0) (omega arith) (λ k b. omega (arith, scaled-size c.args.samples.now (2 ^ 11) c.requires k b)) n);
    }
