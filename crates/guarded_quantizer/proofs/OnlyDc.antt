-- The record of a block of equal samples.
-- Assumes nothing.
use Rattle.std.specs.Prelude.{◌≡◌, ℕ, ◌<◌, Bool, true, false, cond, eqb, List, get_or, ℤ, pos}
use mathlib.Core.Path.{refl, sym, ap, ◌∙◌}
use native.Mathlib.Omega.{arith}
use borrow.Author.Tests.{eqb-false, ne_eqb}
use Rattle.lists.specs.Tab.{tab}
use Rattle.lists.proofs.Tab.{tab-ext}
use Rattle.zigzag.specs.Zigzag.{zigzag_order}
use Rattle.forward.specs.Canonical.{canonical}
use Rattle.guarded_quantizer.specs.Bitmap.{bitmap_of}
use Rattle.guarded_quantizer.specs.Record.{ac_places, record_of}
use Rattle.guarded_quantizer.proofs.Bitmap.{bitmap-zeros}
use Rattle.guarded_quantizer.proofs.Order.{ac-index}
use Rattle.guarded_quantizer.proofs.Record.{made, ac_at, whole}
use Rattle.guarded_quantizer.specs.Constant.{only_dc}

module _ (block quant : List ℕ) where
  no-ac : tab 64 (λ _. pos 0) ≡ ac_places (only_dc block quant)
  unfolding ac_places only_dc
  no-ac = tab-ext 64 (λ _. pos 0) (ac_at (only_dc block quant)) (λ z b. go z b (eqb z 0) refl)
    where
      go : (z : ℕ) → z < 64 → (t : Bool) → eqb z 0 ≡ t → pos 0 ≡ cond t (pos 0) (only_dc block quant (get_or zigzag_order z 0))
      go z b true q = refl
      go z b false q =
          let later = (ac-index z (omega (arith, eqb-false z 0 q)) b).0 in
          ap (λ (t : Bool). cond t (canonical block quant 0) (pos 0)) (sym (ne_eqb (get_or zigzag_order z 0) 0 (λ i. omega arith)))

  pub only-dc : {d : ℤ} {l : List ℤ} {q : List ℕ} → d ≡ canonical block quant 0 → l ≡ tab 64 (λ _. pos 0) → q ≡ quant → made d l 0 q ≡ record_of quant (only_dc block quant)
  unfolding only_dc
  only-dc e h t = whole quant (only_dc block quant) e (h ∙ no-ac) (sym (ap bitmap_of h ∙ bitmap-zeros)) t
