-- The basis is nearly orthogonal: the products of each column with all columns, computed once by the checker.
-- Assumes nothing.
use mathlib.Core.Path.{◌≡◌, sym, ap, ◌∙◌}
use mathlib.Core.Bool.{Bool, cond}
use mathlib.Core.List.{List, [], ◌∷◌, map}
use Prim.Native.Nat.{ℕ, suc, ◌+◌, ◌*◌, ◌/◌, ◌%◌, ◌^◌, ◌≤◌, ◌<◌}
use native.Mathlib.Nat.{le_trans, le_of_eq}
use native.Mathlib.Omega.{arith}
use lib.Dec.{T, leb, leb→le, eqb}
use lib.ListN.{get_or}
use lib.IntN.{ℤ, pos, negsuc, neg_ℤ, nat_abs, ◌+ℤ◌, ◌-ℤ◌, +ℤ_idl, +ℤ_idr}
use Rattle.integers.specs.Linear.{dot, weight}
use Rattle.integers.proofs.Difference.{dif-eq, by-dif, differences}
use Rattle.lists.specs.Tab.{tab}
use Rattle.lists.proofs.Tab.{get_d-tab, map-tab}
use Rattle.lists.specs.Below.{below}
use Rattle.lists.proofs.Below.{below_at}
use Rattle.basis.specs.Cosine.{cosines}
use Rattle.basis.specs.Basis.{reduced, cosine_of, negated, signed, factor, entry, reflected, mirrors, basis}
use Rattle.forward.specs.Sum.{total}
use Rattle.forward.proofs.Sum.{dot-tab, weight-tab, total_ext}
use Rattle.orthogonality.proofs.Orthogonal.{gap}

-- column p: the basis of each frequency n at place p
unfoldable pub basis_at : ℕ → ℕ → ℤ
basis_at n p = basis n (p % 8) (p / 8)

-- the largest sum of the absolute values of a column's products with all columns, 2^64 taken off its own
abbrev pub row_sum : ℕ
row_sum = 90146332016

-- the columns, each with its number
abbrev Column : Type 0
Column = ℕ × List ℤ

numbered : ℕ → Column
numbered p = (p, tab 64 (λ n. basis_at n p))

-- s - t and `dot`, the products above zero added to s and those below to t: the checker computes it in half of the time
products : List ℤ → List ℤ → ℕ → ℕ → ℤ
products [] v s t = pos s -ℤ pos t
products (x ∷ u) [] s t = pos s -ℤ pos t
products (pos a ∷ u) (pos b ∷ v) s t = products u v (s + a * b) t
products (pos a ∷ u) (negsuc b ∷ v) s t = products u v s (t + a * suc b)
products (negsuc a ∷ u) (pos b ∷ v) s t = products u v s (t + suc a * b)
products (negsuc a ∷ u) (negsuc b ∷ v) s t = products u v (s + suc a * suc b) t

above : (s t k : ℕ) (d : ℤ) → (pos (s + k) -ℤ pos t) +ℤ d ≡ (pos s -ℤ pos t) +ℤ (pos k +ℤ d)
above s t k = by-dif _ λ e f. simp differences (dif-eq _ _ _ _ (omega arith))

under : (s t k : ℕ) (d : ℤ) → (pos s -ℤ pos (t + k)) +ℤ d ≡ (pos s -ℤ pos t) +ℤ (neg_ℤ (pos k) +ℤ d)
under s t k = by-dif _ λ e f. simp differences (dif-eq _ _ _ _ (omega arith))

products-dot : (u v : List ℤ) (s t : ℕ) → products u v s t ≡ (pos s -ℤ pos t) +ℤ dot u v
unfolding products dot
products-dot [] v s t = sym (+ℤ_idr (pos s -ℤ pos t))
products-dot (x ∷ u) [] s t = sym (+ℤ_idr (pos s -ℤ pos t))
products-dot (pos a ∷ u) (pos b ∷ v) s t = products-dot u v (s + a * b) t ∙ above s t (a * b) (dot u v)
products-dot (pos a ∷ u) (negsuc b ∷ v) s t = products-dot u v s (t + a * suc b) ∙ under s t (a * suc b) (dot u v)
products-dot (negsuc a ∷ u) (pos b ∷ v) s t = products-dot u v s (t + suc a * b) ∙ under s t (suc a * b) (dot u v)
products-dot (negsuc a ∷ u) (negsuc b ∷ v) s t = products-dot u v (s + suc a * suc b) t ∙ above s t (suc a * suc b) (dot u v)

apart : Column → Column → ℤ
apart c d = products c.1 d.1 0 0 -ℤ cond (eqb c.0 d.0) (pos (2 ^ 64)) (pos 0)

-- over the columns as an argument, so that they are computed once
rows-within : List Column → Bool
rows-within cs = below 64 (λ p. leb (weight (map (apart (get_or cs p (0, []))) cs)) row_sum)

computed : T (rows-within (tab 64 numbered))
unfolding tab products weight below cosines reduced cosine_of negated signed factor entry reflected mirrors basis basis_at numbered apart rows-within
computed = tt

apart-gap : (p q : ℕ) → apart (numbered p) (numbered q) ≡ gap 64 (2 ^ 64) basis_at p q
unfolding apart numbered
apart-gap p q = ap (λ (z : ℤ). z -ℤ cond (eqb p q) (pos (2 ^ 64)) (pos 0)) (products-dot (tab 64 (λ n. basis_at n p)) (tab 64 (λ n. basis_at n q)) 0 0 ∙ +ℤ_idl _ ∙ dot-tab 64 (λ n. basis_at n p) (λ n. basis_at n q))

pub nearly-orthogonal : (p : ℕ) → p < 64 → total 64 (λ q. nat_abs (gap 64 (2 ^ 64) basis_at p q)) ≤ row_sum
unfolding rows-within
nearly-orthogonal p h =
    let cs : List Column = tab 64 numbered in
    let row : map (apart (get_or cs p (0, []))) cs ≡ tab 64 (λ q. apart (numbered p) (numbered q)) =
    ap (λ (c : Column). map (apart c) cs) (get_d-tab 64 numbered (0, []) p h) ∙ map-tab (apart (numbered p)) numbered 64 in
    le_trans
    (le_of_eq (sym (ap weight row ∙ weight-tab 64 (λ q. apart (numbered p) (numbered q)) ∙ total_ext 64 _ _ (λ q b. ap nat_abs (apart-gap p q)))))
    (leb→le (weight (map (apart (get_or cs p (0, []))) cs)) row_sum (below_at 64 (λ k. leb (weight (map (apart (get_or cs k (0, []))) cs)) row_sum) computed p h))
