-- Decoding a plane: what a turn of the loop over the blocks adds, and what holds where no test fails.
-- Assumes nothing.
use mathlib.Core.Path.{◌≡◌, sym, ap, ◌∙◌}
use mathlib.Core.List.{List}
use Prim.Native.Nat.{ℕ, ◌+◌, ◌*◌, ◌/◌, ◌≤◌, ◌<◌}
use native.Mathlib.Nat.{mul-le-mul}
use native.Mathlib.Omega.{arith}
use borrow.Author.Tests.{eqb-true}
use lib.ListN.{length}
use lib.IntN.{ℤ}
use Rattle.lists.specs.Grid.{grid, tiled}
use Rattle.lists.proofs.Grid.{index}
use Rattle.lists.proofs.Parts.{lent}
use Rattle.refusals.specs.Refusals.{status}
use Rattle.refusals.proofs.Refusals.{passed-all}
use Rattle.plane.specs.Plane.{blocks}
use Rattle.plane.specs.Scale.{Scale, cropped, stored_block, block_samples, plane_samples, plane_inverse_tests}
use Rattle.plane.specs.Placing.{StoredOf, Begins, Placed}
use Rattle.plane.proofs.Coding.{measured-range}
use Rattle.plane.proofs.Placing.{Blocks, blocks-none, blocks_more, blocks-all}
use Rattle.plane.proofs.Scales.{Cropping, lent-stored}

-- the first k blocks are written, to a picture of sw × sh
abbrev pub Decoded : Scale → List ℤ → ℕ → ℕ → ℕ → List ℕ → ℕ → List ℕ → Type 0
Decoded s cs w sw sh quant k out = Blocks s.size.side (blocks w) sw sh (λ k. block_samples s quant (stored_block cs k)) k out

few : (n : ℕ) → n ≤ 4096 → blocks n ≤ 512
unfolding blocks
few n l = omega arith

-- the numbers of a turn of the loop over the blocks, a in a row
pub record BlockRoom (cs : List ℤ) (a x y : ℕ) : Type 0 where
  pub read : 64 * (a * y + x) + 64 ≤ length cs
  pub most : length cs ≤ 64 * (512 * 512)

module _ {s : Scale} {cs : List ℤ} {w h sw sh : ℕ} {quant first : List ℕ} (cr : Cropping s) (p : StoredOf s cs w h quant first) (ew : sw ≡ cropped s w) (eh : sh ≡ cropped s h) where
  pub picture-long : length first ≡ sw * sh
  picture-long = p.out-long ∙ (λ i. sym ew i * sym eh i)

  pub decoded-none : Decoded s cs w sw sh quant 0 first
  decoded-none = blocks-none s.size.side (blocks w) sw sh _ first picture-long

  wide : (i : ℕ) → i < sw → i / s.size.side < blocks w
  wide i l = cr.inside w i (rw (← ew) l)

  high : (i : ℕ) → i < sh → i / s.size.side < blocks h
  high i l = cr.inside h i (rw (← eh) l)

  module _ {a x y : ℕ} (ea : a ≡ blocks w) (bx : x < a) (by : y < blocks h) where
    pub block_room : BlockRoom cs a x y
    block_room =
        let e : a * blocks h ≡ blocks w * blocks h = λ i. ea i * blocks h in
        record { read = omega (arith, p.long, index a bx by, e); most = omega (arith, p.long, mul-le-mul (few w p.w-most) (few h p.h-most)) }

    pub begins : {k : ℕ} {out : List ℕ} → Decoded s cs w sw sh quant k out → Begins s.size.side sw sh x y out
    begins d =
        record {
          m-some = cr.side-some;
          m-most = cr.side-most;
          w-most = omega (arith, ew, cr.fewer w, p.w-most);
          h-most = omega (arith, eh, cr.fewer h, p.h-most);
          left = rw ew (cr.begins w x (rw ea at bx));
          top = rw eh (cr.begins h y by);
          long = d.long;
        }

    pub decoded-more : {old new : List ℕ} → Decoded s cs w sw sh quant (a * y + x) old → Placed s.size.side sw sh x y (block_samples s quant (lent (64 * (a * y + x)) 64 cs)) old new →
        Decoded s cs w sw sh quant (a * y + x + 1) new
    decoded-more d q =
        let read : 64 * (blocks w * y + x) + 64 ≤ length cs = rw ea at block_room.read in
        rw ea (blocks_more s.size.side (blocks w) sw sh _ wide (rw ea at bx) (rw ea at d) (rw ea at q) (ap (block_samples s quant) (lent-stored cs (blocks w * y + x) read)))

  pub decoded-all : {k : ℕ} {out : List ℕ} → Decoded s cs w sw sh quant k out → blocks w * blocks h ≤ k → out ≡ plane_samples s cs w h quant
  unfolding plane_samples
  decoded-all d l =
      blocks-all s.size.side (blocks w) sw sh _ wide d high l
      ∙ (λ i. grid (ew i) (eh i) (tiled 0 s.size.side (blocks w) (λ k. block_samples s quant (stored_block cs k))))

-- where no test fails
pub stored : (s : Scale) (cs : List ℤ) (w h : ℕ) (quant out : List ℕ) → status (plane_inverse_tests s cs w h quant out) ≡ 0 → StoredOf s cs w h quant out
unfolding plane_inverse_tests
stored s cs w h quant out e =
    let all = passed-all (plane_inverse_tests s cs w h quant out) tt e in
    let rw = measured-range w all.0 in
    let rh = measured-range h all.1.0 in
    let rest = all.1.1 in
    record {
      w-some = rw.0;
      w-most = rw.1;
      h-some = rh.0;
      h-most = rh.1;
      long = eqb-true _ _ rest.0;
      quant-long = eqb-true _ _ rest.1.0;
      out-long = eqb-true _ _ rest.1.1.0;
    }
