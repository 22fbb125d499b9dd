use Prim.Native.Nat.{◌<◌}
use mathlib.Core.Path.{◌∙◌}
use mathlib.Core.Bool.{◌&&◌}
use native.Mathlib.Omega.{arith}
use lib.IntN.{pos, ◌+ℤ◌, ◌-ℤ◌, ◌*ℤ◌}
use lib.Signed.{le_z}
use mir.Syntax.{w16, w32}
use mir.ValLaws.{to_z-of_z}
use Rattle.quantize.specs.Quantize.{divisor_of}
use Rattle.stored_blocks.proofs.Doubled.{twice, less, more}
use Rattle.stored_blocks.proofs.passes.Goals as goal

small : (c : goal.After-divisor-d) → c.divisor-d.result < 256
unfolding divisor_of
small c = let h = c.ranges.quantizer.fits in let e = c.divisor-d.ensures in omega arith

pub returns : goal.returns
returns c =
    let p = c.product-twice.ensures in let d = c.divisor-d.ensures in let x = to_z-of_z w16 c.args.coefficient c.ranges.coefficient in
    let product = p.value ∙ (λ i. x i *ℤ pos (divisor_of c.args.quantizer)) in
    let l = to_z-of_z w32 c.args.low c.ranges.low in
    let h = to_z-of_z w32 c.args.high c.ranges.high in
    let under = (less c.product-twice.result p.result_bound (small c)).is ∙ (λ i. pos 2 *ℤ product i -ℤ pos (d i)) in
    let over = (more c.product-twice.result p.result_bound (small c)).is ∙ (λ i. pos 2 *ℤ product i +ℤ pos (d i)) in
    λ i. le_z (under i) (h i) && le_z (l i) (over i)

pub overflow_mul-twice : goal.overflow_mul-twice
overflow_mul-twice c = (twice c.product-twice.result c.product-twice.ensures.result_bound).fits

pub overflow_cast-d : goal.overflow_cast-d
overflow_cast-d c = record { sfits = omega (arith, small c) }

pub overflow_sub-result : goal.overflow_sub-result
overflow_sub-result c = (less c.product-twice.result c.product-twice.ensures.result_bound (small c)).fits

pub overflow_add-result : goal.overflow_add-result
overflow_add-result c = (more c.product-twice.result c.product-twice.ensures.result_bound (small c)).fits
