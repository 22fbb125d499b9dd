-- A 16-bit coefficient times its divisor, at 32 bits.
-- Assumes nothing.
use mathlib.Core.Path.{◌≡◌, sym, ap, subst, ◌∙◌}
use mathlib.Core.List.{List}
use Prim.Native.Nat.{ℕ, ◌<◌, ◌≤◌}
use native.Mathlib.Nat.{mul-le-mul}
use native.Mathlib.Omega.{arith}
use lib.ListN.{get_or}
use lib.IntN.{ℤ, pos, nat_abs, ◌*ℤ◌}
use lib.Signed.{nat_abs-le}
use mir.Syntax.{w16, w32}
use mir.Val.{SFits, to_z, of_z}
use mir.ValLaws.{to_z-of_z, to_z_pos}
use Rattle.integers.proofs.Ring.{nat_abs-*}
use Rattle.integers.proofs.Bound.{small-fits}
use Rattle.integers.proofs.Word.{widened}
use Rattle.quantize.specs.Quantize.{divisor_of}
use Rattle.stored_blocks.specs.Dequantize.{product}

module _ {x : ℤ} {q d : ℕ} (fx : SFits w16 x) (hq : q < 256) (e : d ≡ divisor_of q) where
  pub divisor-small : d < 256
  unfolding divisor_of
  divisor-small = omega arith

  size : nat_abs (x *ℤ pos d) ≤ 8355840
  size =
      let most : d ≤ 255 = omega (arith, divisor-small) in
      omega (arith, nat_abs-* x (pos d), mul-le-mul (nat_abs-le x fx.sfits) most)

  abbrev made : ℤ
  made = to_z w32 (of_z w32 (to_z w16 (of_z w16 x))) *ℤ to_z w32 d

  is : made ≡ x *ℤ pos d
  is = λ i. widened w16 w32 tt fx i *ℤ to_z_pos w32 d (omega (arith, divisor-small)) i

  pub product-fits : SFits w32 made
  product-fits = subst (SFits w32) (sym is) (small-fits w32 (x *ℤ pos d) (omega (arith, size)))

  pub product_value : (to_z w32 (of_z w32 made) ≡ x *ℤ pos (divisor_of q)) × (nat_abs (to_z w32 (of_z w32 made)) ≤ 8355840)
  product_value =
      let z = to_z-of_z w32 made product-fits ∙ is in
      (z ∙ ap (λ (k : ℕ). x *ℤ pos k) e, subst (λ (y : ℤ). nat_abs y ≤ 8355840) (sym z) size)

-- what a call gave for place n, as a local of 32 bits holds it
pub product_at : (cs : List ℤ) (quant : List ℕ) (n : ℕ) {r : ℤ} → SFits w16 (get_or cs n (pos 0)) →
    (r ≡ to_z w16 (of_z w16 (get_or cs n (pos 0))) *ℤ pos (divisor_of (get_or quant n 0))) × (nat_abs r ≤ 8355840) → to_z w32 (of_z w32 r) ≡ product cs quant n
unfolding product
product_at cs quant n {r} f e =
    to_z-of_z w32 r (small-fits w32 r (omega (arith, e.1))) ∙ e.0 ∙ ap (λ (x : ℤ). x *ℤ pos (divisor_of (get_or quant n 0))) (to_z-of_z w16 (get_or cs n (pos 0)) f)
