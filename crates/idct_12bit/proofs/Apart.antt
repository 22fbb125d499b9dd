-- A column of 16-bit numbers at 32 bits, at each size: p0's gain is 2·2^s, so scaled down by s bits it adds 2·p0, exactly; and what
-- the other gains make, rounded, stays below 2^31 in absolute value, also with 2·p0.
-- Assumes nothing.
use mathlib.Core.Path.{◌≡◌, refl, sym, ap, ◌∙◌}
use mathlib.Core.List.{List, [], ◌∷◌, map}
use Prim.Native.Nat.{ℕ, suc, zero, ◌-◌, ◌*◌, ◌^◌, ◌<◌, ◌≤◌, zero-le}
use native.Mathlib.Omega.{arith}
use lib.Dec.{T}
use lib.ListN.{length, get_or, set}
use lib.Pow.{pow_pos}
use lib.IntN.{ℤ, pos, nat_abs, ◌+ℤ◌, ◌*ℤ◌, *ℤ-zero}
use mir.Syntax.{w32, w64}
use Rattle.integers.specs.Wrap.{modulo, wrap}
use Rattle.integers.specs.Floor.{floor_div}
use Rattle.integers.specs.Linear.{dot, transform, weight}
use Rattle.integers.proofs.Ring.{nat_abs-+, ring}
use Rattle.integers.proofs.Difference.{dif-eq, by-dif, differences}
use Rattle.integers.proofs.Wrap.{wrap-id}
use Rattle.integers.proofs.Floor.{floor-div, floor-unique}
use Rattle.integers.proofs.Bound.{small-fits}
use Rattle.lists.proofs.Tab.{tab-ext, map-get_d}
use Rattle.gains.specs.Gains.{mirror, mirrored, upper4, gains4}
use Rattle.scaling.specs.Scaling.{descaled}
use Rattle.passes.specs.Passes.{pass, dc}
use Rattle.block.specs.Bound.{AtMost}
use Rattle.block.proofs.Exact.{exact_pass, light, pass-exact, exact-le}

-- a multiple of the divisor comes out whole
floor-shift : (k z : ℤ) (m : ℕ) → 0 < m → floor_div (k *ℤ pos m +ℤ z) m ≡ floor_div z m +ℤ k
floor-shift k z m h =
    let d = floor-div z m h in
    ap (λ (t : ℤ). floor_div (k *ℤ pos m +ℤ t) m) d.0
    ∙ ap (λ (t : ℤ). floor_div t m) (regroup k (floor_div z m) (pos m) (pos (modulo m z)))
    ∙ floor-unique (floor_div z m +ℤ k) d.1
  where
    regroup : (k f n r : ℤ) → k *ℤ n +ℤ (f *ℤ n +ℤ r) ≡ (f +ℤ k) *ℤ n +ℤ r
    regroup k f n r = simp ring

abbrev tail : List ℤ → List ℤ
tail [] = []
tail (c ∷ cs) = cs

-- rows of gains, by p0's and the others
abbrev rows_of : ℤ → List (List ℤ) → List (List ℤ)
rows_of c tails = map (λ (cs : List ℤ). c ∷ cs) tails

module _ (s : ℕ) (x : ℤ) (q : List ℤ) where
  sum-apart : (cs : List ℤ) → dot (pos (2 * 2 ^ s) ∷ cs) (x ∷ q) +ℤ pos (2 ^ (s - 1)) ≡ (x +ℤ x) *ℤ pos (2 ^ s) +ℤ (dot (pos 0 ∷ cs) (pos 0 ∷ q) +ℤ pos (2 ^ (s - 1)))
  unfolding dot
  sum-apart cs = twice x (dot cs q) (2 ^ s) (2 ^ (s - 1))
    where
      twice : (x d : ℤ) (m h : ℕ) → pos (2 * m) *ℤ x +ℤ d +ℤ pos h ≡ (x +ℤ x) *ℤ pos m +ℤ (pos 0 +ℤ d +ℤ pos h)
      twice = by-dif _ λ a b. by-dif _ λ c d. λ m h. simp differences (dif-eq _ _ _ _ (omega arith))

  exact-apart : (tails : List (List ℤ)) → exact_pass (rows_of (pos (2 * 2 ^ s)) tails) s (x ∷ q) ≡ map (λ (v : ℤ). v +ℤ (x +ℤ x)) (exact_pass (rows_of (pos 0) tails) s (pos 0 ∷ q))
  unfolding exact_pass
  exact-apart [] = refl
  exact-apart (cs ∷ tails) =
      λ i. (ap (λ (t : ℤ). floor_div t (2 ^ s)) (sum-apart cs) ∙ floor-shift (x +ℤ x) (dot (pos 0 ∷ cs) (pos 0 ∷ q) +ℤ pos (2 ^ (s - 1))) (2 ^ s) (pow_pos s)) i ∷ exact-apart tails i

  -- the first gain plays no part where p0 is 0
  first-unread : (c : ℤ) (tails : List (List ℤ)) → pass w32 (rows_of c tails) s (pos 0 ∷ q) ≡ pass w32 (rows_of (pos 0) tails) s (pos 0 ∷ q)
  unfolding pass transform dot
  first-unread c [] = refl
  first-unread c (cs ∷ tails) = λ i. descaled w32 (wrap w32 (*ℤ-zero c i +ℤ dot cs q)) s ∷ first-unread c tails i

-- what is left below 2^31 for twice a 16-bit number
abbrev room : ℕ
room = 2 ^ 31 - 2 ^ 17

module _ (s : ℕ) (tails : List (List ℤ)) (r : T (light room (2 ^ 15) s (rows_of (pos 0) tails))) (n : T (light (2 ^ 31) (2 ^ 15) s (rows_of (pos 0) tails)))
    (l : T (light (2 ^ 63) (2 ^ 15) s (rows_of (pos (2 * 2 ^ s)) tails))) where
  abbrev rows : List (List ℤ)
  rows = rows_of (pos (2 * 2 ^ s)) tails

  -- the pass q without p0, and 2·p0 added to each output
  pub pass-apart : (p : List ℤ) → length p ≡ 8 → AtMost (2 ^ 15) p → {d : ℤ} {q r : List ℤ} → q ≡ pass w32 rows s (set p 0 (pos 0)) → d ≡ wrap w32 (dc p +ℤ dc p) →
      r ≡ map (λ (v : ℤ). wrap w32 (v +ℤ d)) q → r ≡ pass w64 rows s p
  pass-apart [] b h eq ed er = absurd (omega arith)
  pass-apart (x ∷ p) b h eq ed er =
      let rest = exact_pass (rows_of (pos 0) tails) s (pos 0 ∷ p) in
      let small = exact-le (pos 0 ∷ p) (2 ^ 15) without s room (rows_of (pos 0) tails) r in
      let add : ℤ → ℤ = λ v. wrap w32 (v +ℤ wrap w32 (x +ℤ x)) in
      er
      ∙ (λ i. map (λ (v : ℤ). wrap w32 (v +ℤ ed i)) (eq i))
      ∙ ap (map add) (first-unread s x p (pos (2 * 2 ^ s)) tails ∙ pass-exact (pos 0 ∷ p) (2 ^ 15) without s w32 (rows_of (pos 0) tails) n)
      ∙ sym (map-get_d add (pos 0) rest (length rest) refl)
      ∙ tab-ext (length rest) _ _ (λ k b. fits (get_or rest k (pos 0)) (small k))
      ∙ map-get_d (λ (v : ℤ). v +ℤ (x +ℤ x)) (pos 0) rest (length rest) refl
      ∙ sym (exact-apart s x p tails)
      ∙ sym (pass-exact (x ∷ p) (2 ^ 15) h s w64 rows l)
    where
      without : AtMost (2 ^ 15) (pos 0 ∷ p)
      without zero = zero-le
      without (suc k) = h (suc k)

      fits : (v : ℤ) → nat_abs v ≤ room → wrap w32 (v +ℤ wrap w32 (x +ℤ x)) ≡ v +ℤ (x +ℤ x)
      fits v m =
          let twice = nat_abs-+ x x in
          let sum = nat_abs-+ v (x +ℤ x) in
          let size : nat_abs x ≤ 2 ^ 15 = h 0 in
          ap (λ (t : ℤ). wrap w32 (v +ℤ t)) (wrap-id w32 (x +ℤ x) (small-fits w32 (x +ℤ x) (omega arith)))
          ∙ wrap-id w32 (v +ℤ (x +ℤ x)) (small-fits w32 (v +ℤ (x +ℤ x)) (omega arith))

pub four-apart : (p : List ℤ) → length p ≡ 8 → AtMost (2 ^ 15) p → {d : ℤ} {q r : List ℤ} → q ≡ pass w32 gains4 13 (set p 0 (pos 0)) → d ≡ wrap w32 (dc p +ℤ dc p) →
    r ≡ map (λ (v : ℤ). wrap w32 (v +ℤ d)) q → r ≡ pass w64 gains4 13 p
unfolding light weight mirror mirrored upper4 gains4
four-apart = pass-apart 13 (map tail gains4) tt tt tt
