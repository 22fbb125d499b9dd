use mathlib.Core.Path.{◌≡◌, refl, ◌∙◌, ap}
use borrow.Author.Rules.{rules}
use borrow.Author.Tests.{le-leb}
use lib.ListN.{length}
use native.Mathlib.Omega.{arith}
use Prim.Native.Nat.{◌≤◌}
use Rattle.std.specs.Prelude.{Ok, pos}
use Rattle.forward.specs.Forward.{scaled_sum}
use Rattle.quantize.specs.Quantize.{coefficient}
use Rattle.refusals.proofs.Refusals.{has, ◌then◌}
use Rattle.refusals.proofs.Numbers.{accepted-ok}
use Rattle.transform.proofs.guarded.canonical_coefficient.Goals as goal

pub unwrap-requires : goal.unwrap-requires
unwrap-requires c =
    let long : length c.args.block.now ≡ 64 = omega arith in
    let index : c.args.n ≤ 63 = omega arith in
    let is = accepted-ok _ (coefficient (scaled_sum 128 c.args.block.now c.args.n) c.args.quantizer) (pos 0) (has long then le-leb _ _ index then tt) c.fdct_quantize_coefficient.ensures in
    search rules

pub returns-clause-value : goal.returns-clause-value
returns-clause-value c =
    let long : length c.args.block.now ≡ 64 = omega arith in
    let index : c.args.n ≤ 63 = omega arith in
    let is = accepted-ok _ (coefficient (scaled_sum 128 c.args.block.now c.args.n) c.args.quantizer) (pos 0) (has long then le-leb _ _ index then tt) c.fdct_quantize_coefficient.ensures in
    search rules
