-- A row of coefficients that one sum each settles.
-- Assumes nothing.
use mathlib.Core.Path.{◌≡◌, sym, ap, subst, ◌∙◌}
use mathlib.Core.Bool.{true, cond}
use mathlib.Core.List.{List}
use Prim.Native.Nat.{ℕ, ◌+◌, ◌*◌, ◌/◌, ◌<◌}
use lib.Dec.{T}
use lib.ListN.{get_or}
use lib.IntN.{ℤ, pos, ◌-ℤ◌}
use lib.Ieee.{Float, nan, binary64, fits, mul}
use lib.Ieee.Fits.{mul-fits}
use Rattle.lists.specs.Tab.{tab}
use Rattle.lists.specs.Below.{below}
use Rattle.lists.proofs.Below.{holds_at}
use Rattle.lists.proofs.Tab.{get_d-tab, tab-ext}
use Rattle.forward.specs.Forward.{scaled_sum}
use Rattle.quantize.specs.Quantize.{coefficient}
use Rattle.guarded_quantizer.specs.Binary64.{rounded_to_i16}
use Rattle.guarded_quantizer.proofs.FixedPoint.{settled-point}
use Rattle.transform.specs.Settled.{in_range, point, settled_point, by_value}

-- the parts above the rests are the coefficients
pub settled-row : (block quant : List ℕ) (v : ℕ) (scaled : List Float) {points : List ℕ} {row : List ℤ} → ((u : ℕ) → u < 8 → T (fits binary64 (get_or scaled u nan))) →
    below 8 (λ u. in_range (get_or scaled u nan)) ≡ true → points ≡ tab 8 (λ u. point (get_or scaled u nan)) → below 8 (λ u. settled_point (get_or points u 0)) ≡ true →
    row ≡ tab 8 (λ u. pos (get_or points u 0 / 65536) -ℤ pos 32768) → row ≡ tab 8 (λ u. by_value block quant (8 * v + u) (get_or scaled u nan))
settled-row block quant v scaled {points} F near e settled er = er ∙ tab-ext 8 _ _ one
  where
    one : (u : ℕ) → u < 8 → pos (get_or points u 0 / 65536) -ℤ pos 32768 ≡ by_value block quant (8 * v + u) (get_or scaled u nan)
    one u h =
        let p : get_or points u 0 ≡ point (get_or scaled u nan) = ap (λ (l : List ℕ). get_or l u 0) e ∙ get_d-tab 8 (λ k. point (get_or scaled k nan)) 0 u h in
        let s = ap settled_point (sym p) ∙ holds_at 8 (λ k. settled_point (get_or points k 0)) settled u h in
        let found = settled-point (get_or scaled u nan) (F u h) (holds_at 8 (λ k. in_range (get_or scaled k nan)) near u h) s in
        ap (λ (k : ℕ). pos (k / 65536) -ℤ pos 32768) p ∙ sym found.1
        ∙ (λ i. cond (sym found.0 i) (coefficient (scaled_sum 128 block (8 * v + u)) (get_or quant (8 * v + u) 0)) (rounded_to_i16 (get_or scaled u nan)))

-- a row of products
module _ (f g : ℕ → Float) {scaled : List Float} (e : scaled ≡ tab 8 (λ u. mul binary64 (f u) (g u))) (u : ℕ) (h : u < 8) where
  product_at : get_or scaled u nan ≡ mul binary64 (f u) (g u)
  product_at = ap (λ (l : List Float). get_or l u nan) e ∙ get_d-tab 8 (λ k. mul binary64 (f k) (g k)) nan u h

  pub product-fits : T (fits binary64 (get_or scaled u nan))
  product-fits = subst (λ (q : Float). T (fits binary64 q)) (sym product_at) (mul-fits binary64 (f u) (g u))

  pub row_at : (block quant : List ℕ) (v : ℕ) {row : List ℤ} → row ≡ tab 8 (λ k. by_value block quant (8 * v + k) (get_or scaled k nan)) → get_or row u (pos 0) ≡ by_value block quant (8 * v + u) (mul binary64 (f u) (g u))
  row_at block quant v er =
      ap (λ (l : List ℤ). get_or l u (pos 0)) er ∙ get_d-tab 8 (λ k. by_value block quant (8 * v + k) (get_or scaled k nan)) (pos 0) u h ∙ ap (by_value block quant (8 * v + u)) product_at
