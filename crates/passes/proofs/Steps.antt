-- The passes by the steps of the code: the transform scaled down, at any width; and by the zero test, at any size.
-- Assumes nothing.
use mathlib.Core.Path.{◌≡◌, refl, sym, ap, ◌∙◌}
use mathlib.Core.Bool.{Bool, true, false, cond}
use mathlib.Core.List.{List, map}
use Prim.Native.Nat.{ℕ, ◌+◌, ◌^◌, ◌<◌}
use lib.ListN.{length, replicate, length-map, length-replicate}
use lib.IntN.{ℤ, pos, ◌*ℤ◌, *ℤ_comm}
use lib.Signed.{mag}
use mir.Syntax.{Width, w32}
use mir.Val.{to_z, of_z}
use mir.ValLaws.{to_z-of_z}
use Rattle.std.proofs.lemmas.List.{map-id}
use Rattle.integers.specs.Wrap.{wrap}
use Rattle.integers.specs.Linear.{transform, zero_at}
use Rattle.integers.proofs.Wrap.{wrap-read}
use Rattle.gains.specs.Gains.{mirror, mirrored, upper, gains, upper4, gains4, upper2, gains2}
use Rattle.scaling.specs.Scaling.{descaled}
use Rattle.passes.specs.Passes.{Size, dc, pass, column_pass, row_pass}

module _ (w : Width) (rows : List (List ℤ)) (s : ℕ) where
  -- q is the transform, at a type whose values are their own numbers, and r each output of it scaled down
  pub passed : (p q : List ℤ) {r : List ℤ} → map (λ z. z) q ≡ transform w rows (map (λ z. z) p) → r ≡ map (λ v. descaled w v s) q → r ≡ pass w rows s p
  unfolding pass
  passed p q e f = f ∙ ap (map (λ v. descaled w v s)) (sym (map-id q) ∙ e ∙ ap (transform w rows) (map-id p))

  -- a number for each row of gains
  pub length-pass : (p : List ℤ) → length (pass w rows s p) ≡ length rows
  unfolding pass transform
  length-pass p = length-map (transform w rows p) _ ∙ length-map rows _

-- how many outputs each transform has
pub eight-rows : length gains ≡ 8
unfolding mirror mirrored upper gains
eight-rows = refl

pub four-rows : length gains4 ≡ 4
unfolding mirror mirrored upper4 gains4
four-rows = refl

pub two-rows : length gains2 ≡ 2
unfolding mirror mirrored upper2 gains2
two-rows = refl

-- a column and a row, where the zero test gave t
module _ (z : Size) (p : List ℤ) {t : Bool} (e : t ≡ zero_at z.ac p) where
  pub zero-column : {x : ℤ} → t ≡ true → x ≡ wrap w32 (pos 4 *ℤ dc p) → replicate z.side x ≡ column_pass z p
  unfolding column_pass
  zero-column h f = simp (sym e ∙ h) (ap (replicate z.side) f)

  pub full-column : {q : List ℤ} → t ≡ false → q ≡ pass w32 z.matrix (11 + z.extra) p → q ≡ column_pass z p
  unfolding column_pass
  full-column h f = simp (sym e ∙ h) f

  pub zero_row : {x : ℤ} → t ≡ true → x ≡ descaled w32 (dc p) 5 → replicate z.side x ≡ row_pass z p
  unfolding row_pass
  zero_row h f = simp (sym e ∙ h) (ap (replicate z.side) f)

  pub full-row : {q : List ℤ} → t ≡ false → q ≡ pass w32 z.matrix (18 + z.extra) p → q ≡ row_pass z p
  unfolding row_pass
  full-row h f = simp (sym e ∙ h) f

-- 4·p0, as the code's product gave it
pub dc-column : (a : ℤ) {r : ℤ} → mag a < 2 ^ 31 → r ≡ wrap w32 (to_z w32 (of_z w32 a) *ℤ pos 4) → to_z w32 (of_z w32 r) ≡ wrap w32 (pos 4 *ℤ a)
dc-column a f e = wrap-read w32 (pos 4 *ℤ a) (e ∙ ap (λ x. wrap w32 (x *ℤ pos 4)) (to_z-of_z w32 a (record { sfits = f })) ∙ ap (wrap w32) (*ℤ_comm a (pos 4)))

-- a row has as many numbers as the size's side
pub length-row : (z : Size) (p : List ℤ) → length z.matrix ≡ z.side → length (row_pass z p) ≡ z.side
unfolding row_pass
length-row z p e = go (zero_at z.ac p)
  where
    go : (t : Bool) → length (cond t (replicate z.side (descaled w32 (dc p) 5)) (pass w32 z.matrix (18 + z.extra) p)) ≡ z.side
    go true = length-replicate z.side _
    go false = length-pass w32 z.matrix (18 + z.extra) p ∙ e
