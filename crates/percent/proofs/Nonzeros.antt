-- Document 02, cards 6 and 12: the number of nonzero coefficients, as a sum; it never grows with the percent. Assumes nothing.
use mathlib.Core.Path.{◌≡◌, refl, sym, ap, ◌∙◌}
use mathlib.Core.Bool.{Bool, true, false, cond}
use mathlib.Core.List.{List, [], ◌∷◌, ◌++◌}
use Prim.Native.Nat.{ℕ, zero, suc, ◌+◌, ◌*◌, ◌≤◌}
use native.Mathlib.Omega.{arith}
use lib.IntN.{ℤ, pos}
use Rattle.integers.specs.Equal.{eq_z}
use Rattle.integers.proofs.Equal.{eq_z-same, eq_z-true}
use Rattle.lists.specs.Tab.{tab}
use Rattle.lists.specs.Grid.{grid}
use Rattle.forward.specs.Sum.{total}
use Rattle.forward.specs.Canonical.{canonical, coefficients_at, coefficients}
use Rattle.forward.proofs.Sum.{total_ext, total-le, total-const, total-grid}
use Rattle.plane.specs.Plane.{blocks, block_of, plane_coefficients}
use Rattle.percent.specs.Percent.{percent_table}
use Rattle.percent.specs.Nonzeros.{ZerosStay, nonzeros}
use Rattle.percent.proofs.Zeros.{block-zeros, plane-zeros}

one-most : (t : Bool) → cond t 0 1 ≤ 1
one-most true = omega arith
one-most false = omega arith

none : (d : ℤ) → d ≡ pos 0 → cond (eq_z d (pos 0)) 0 1 ≤ 0
none d e = rw (eq_z-same d (pos 0) e) (omega arith)

one : (c d : ℤ) → (c ≡ pos 0 → d ≡ pos 0) → cond (eq_z d (pos 0)) 0 1 ≤ cond (eq_z c (pos 0)) 0 1
one c d h = go (eq_z c (pos 0)) refl
  where
    go : (t : Bool) → eq_z c (pos 0) ≡ t → cond (eq_z d (pos 0)) 0 1 ≤ cond t 0 1
    go true e = omega (arith, none d (h (eq_z-true c (pos 0) e)))
    go false e = one-most (eq_z d (pos 0))

-- the law, over any two lists
pub nonzeros-fall : (cs ds : List ℤ) → ZerosStay cs ds → nonzeros ds ≤ nonzeros cs
unfolding nonzeros
nonzeros-fall cs [] h = omega arith
nonzeros-fall [] (d ∷ ds) h = omega (arith, none d (h 0 refl), nonzeros-fall [] ds (λ i. h (suc i)))
nonzeros-fall (c ∷ cs) (d ∷ ds) h = omega (arith, one c d (h 0), nonzeros-fall cs ds (λ i. h (suc i)))

pub block-nonzeros : (block base : List ℕ) (p q : ℕ) → p ≤ q → nonzeros (coefficients block (percent_table base q)) ≤ nonzeros (coefficients block (percent_table base p))
block-nonzeros block base p q h = nonzeros-fall _ _ (block-zeros block base p q h)

pub plane-nonzeros : (samples : List ℕ) (w h : ℕ) (base : List ℕ) (p q : ℕ) → p ≤ q → nonzeros (plane_coefficients samples w h (percent_table base q)) ≤ nonzeros (plane_coefficients samples w h (percent_table base p))
plane-nonzeros samples w h base p q l = nonzeros-fall _ _ (plane-zeros samples w h base p q l)

-- ---- the number as a sum

nonzeros-end : (cs : List ℤ) (c : ℤ) → nonzeros (cs ++ (c ∷ [])) ≡ nonzeros cs + cond (eq_z c (pos 0)) 0 1
unfolding nonzeros
nonzeros-end [] c = omega arith
nonzeros-end (d ∷ cs) c = omega (arith, nonzeros-end cs c)

pub nonzeros-tab : (n : ℕ) (f : ℕ → ℤ) → nonzeros (tab n f) ≡ total n (λ i. cond (eq_z (f i) (pos 0)) 0 1)
unfolding nonzeros tab total
nonzeros-tab zero f = refl
nonzeros-tab (suc n) f = nonzeros-end (tab n f) (f n) ∙ ap (λ (k : ℕ). k + cond (eq_z (f n) (pos 0)) 0 1) (nonzeros-tab n f)

pub nonzeros-most : (n : ℕ) (f : ℕ → ℤ) → nonzeros (tab n f) ≤ n
nonzeros-most n f = omega (arith, nonzeros-tab n f, total-le n _ (λ i. 1) (λ i b. one-most (eq_z (f i) (pos 0))), total-const n 1)

-- a plane's, block by block
pub plane-nonzeros-sum : (samples : List ℕ) (w h : ℕ) (quant : List ℕ) →
    nonzeros (plane_coefficients samples w h quant) ≡ total (blocks w * blocks h) (λ k. nonzeros (coefficients (block_of samples w h k) quant))
unfolding plane_coefficients grid coefficients_at
plane-nonzeros-sum samples w h quant =
    nonzeros-tab (64 * (blocks w * blocks h)) _
    ∙ total-grid 64 (blocks w * blocks h) (λ n k. cond (eq_z (canonical (block_of samples w h k) quant n) (pos 0)) 0 1)
    ∙ total_ext (blocks w * blocks h) _ _ (λ k b. sym (nonzeros-tab 64 (canonical (block_of samples w h k) quant)))

pub plane-nonzeros-most : (samples : List ℕ) (w h : ℕ) (quant : List ℕ) → nonzeros (plane_coefficients samples w h quant) ≤ 64 * (blocks w * blocks h)
unfolding plane_coefficients grid
plane-nonzeros-most samples w h quant = nonzeros-most (64 * (blocks w * blocks h)) _
