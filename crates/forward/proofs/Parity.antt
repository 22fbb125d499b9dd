-- The coefficients of one parity of (u, v), written one after the other; and the four parities together.
-- Assumes nothing.
use mathlib.Core.Path.{◌≡◌, refl, sym, ap, subst, ◌∙◌}
use mathlib.Core.Bool.{Bool, true, false, cond, not, beq}
use mathlib.Core.List.{List}
use Prim.Native.Nat.{ℕ, ◌+◌, ◌*◌, ◌/◌, ◌%◌, ◌<◌}
use native.Mathlib.Decide.{ℕ_discrete}
use native.Mathlib.Omega.{arith}
use borrow.Author.Tests.{eq-eqb, ne_eqb}
use lib.Dec.{T, eqb, eqb→eq}
use lib.ListN.{length, get_or}
use lib.IntN.{ℤ, pos}
use mir.Facts.{and_yes}
use Rattle.lists.specs.Tab.{tab}
use Rattle.lists.proofs.Tab.{length-tab, get_d-tab, tab-ext, Stored, missed, stored-tab}
use Rattle.lists.specs.Below.{below}
use Rattle.lists.proofs.Below.{below_at}
use Rattle.quantize.specs.Quantize.{coefficient}
use Rattle.forward.specs.Sum.{total}
use Rattle.forward.specs.Forward.{centred_sum, quantized_sum}
use Rattle.forward.specs.Parity.{folded, folded_quadrant, fold_sum, of_parity, parity_written}
use Rattle.forward.proofs.Folding.{pairs_at, pairs-fold, fold-sum}

-- the 16 places of one parity, rising
abbrev pub place_of : ℕ → ℕ → ℕ → ℕ
place_of u v k = 16 * (k / 4) + 8 * v + 2 * (k % 4) + u

agrees : (s t : Bool) → T (beq s t) → s ≡ t
agrees true true p = refl
agrees true false p = absurd p
agrees false true p = absurd p
agrees false false p = refl

-- computed: they are the places of the parity, and no others
exactly : (u v : ℕ) → u < 2 → v < 2 → (n : ℕ) → n < 64 → missed (place_of u v) 16 n ≡ not (of_parity u v n)
unfolding below of_parity
exactly u v hu hv n h =
    let f : ℕ → ℕ → ℕ → Bool = λ u v n. beq (missed (place_of u v) 16 n) (not (of_parity u v n)) in
    agrees _ _ (below_at 64 (f u v) (below_at 2 (λ v. below 64 (f u v)) (below_at 2 (λ u. below 2 (λ v. below 64 (f u v))) tt u hu) v hv) n h)

-- computed: "that parity's 16 coefficients"
pub sixteen : (u v : ℕ) → u < 2 → v < 2 → total 64 (λ n. cond (of_parity u v n) 1 0) ≡ 16
unfolding below total of_parity
sixteen u v hu hv =
    let f : ℕ → ℕ → Bool = λ u v. eqb (total 64 (λ n. cond (of_parity u v n) 1 0)) 16 in
    eqb→eq _ 16 (below_at 2 (f u) (below_at 2 (λ u. below 2 (f u)) tt u hu) v hv)

-- the 16 numbers of a quadrant
pub quadrant-long : (c : List ℤ) (u v : ℕ) {f : List ℤ} → f ≡ folded_quadrant c u v → length f ≡ 16
unfolding folded_quadrant
quadrant-long c u v e = ap length e ∙ length-tab 16 (λ k. folded c u v (k % 4) (k / 4))

-- a quadrant depends on the parities alone
same-quadrant : (c : List ℤ) (u v p q : ℕ) → u % 2 ≡ p % 2 → v % 2 ≡ q % 2 → folded_quadrant c u v ≡ folded_quadrant c p q
unfolding folded_quadrant
same-quadrant c u v p q eu ev =
    tab-ext 16 _ _ (λ k b.
    let x : k % 4 < 4 = omega arith in
    let y : k / 4 < 4 = omega arith in
    sym (pairs-fold c u v (k % 4) (k / 4) x y) ∙ (λ i. pairs_at c (eqb (eu i) 1) (eqb (ev i) 1) (k % 4) (k / 4)) ∙ pairs-fold c p q (k % 4) (k / 4) x y)

-- the sum of a quadrant is S for the frequencies of its parity
fold-read : (c : List ℤ) (u v n : ℕ) → of_parity u v n ≡ true → fold_sum (folded_quadrant c u v) n ≡ centred_sum c n
unfolding of_parity
fold-read c u v n e =
    let both = and_yes (eqb (n % 2) u) (eqb (n / 8 % 2) v) (subst T (sym e) tt) in
    let eu : u % 2 ≡ n % 8 % 2 = omega (arith, eqb→eq (n % 2) u both.0) in
    let ev : v % 2 ≡ n / 8 % 2 = omega (arith, eqb→eq (n / 8 % 2) v both.1) in
    ap (λ (f : List ℤ). fold_sum f n) (same-quadrant c u v (n % 8) (n / 8) eu ev) ∙ sym (fold-sum c n)

-- the fold's sums, quantized and stored at the 16 places in turn, are the coefficients of the parity, and the other 48 places are kept
module _ (c : List ℤ) (quant : List ℕ) (u v : ℕ) (hu : u < 2) (hv : v < 2) {f : List ℤ} (ef : f ≡ folded_quadrant c u v) (out : List ℤ) where
  abbrev value : ℕ → ℤ
  value n = coefficient (fold_sum f n) (get_or quant n 0)

  place : (n : ℕ) (t : Bool) → of_parity u v n ≡ t → cond (not t) (get_or out n (pos 0)) (value n) ≡ cond t (quantized_sum c quant n) (get_or out n (pos 0))
  unfolding quantized_sum
  place n true e = ap (λ (S : ℤ). coefficient S (get_or quant n 0)) (ap (λ (g : List ℤ). fold_sum g n) ef ∙ fold-read c u v n e)
  place n false e = refl

  pub parity-written : {l : List ℤ} → Stored (place_of u v) (λ n. coefficient (fold_sum f n) (get_or quant n 0)) out 16 l → length out ≡ 64 → l ≡ parity_written c quant u v out
  unfolding parity_written
  parity-written s long =
      stored-tab (pos 0) 64 (place_of u v) value out s long (λ k b. omega arith)
      ∙ tab-ext 64 _ _ (λ n b. ap (λ (t : Bool). cond t (get_or out n (pos 0)) (value n)) (exactly u v hu hv n b) ∙ place n (of_parity u v n) refl)

-- each place has one of the four parities
module _ (c : List ℤ) (quant : List ℕ) (out : List ℤ) where
  abbrev g : ℕ → ℤ
  g = quantized_sum c quant

  last : (n : ℕ) (z : ℤ) → cond (of_parity 1 1 n) (g n) (cond (of_parity 0 1 n) (g n) (cond (of_parity 1 0 n) (g n) (cond (of_parity 0 0 n) (g n) z))) ≡ g n
  unfolding of_parity
  last n z = go (ℕ_discrete (n % 2) 1) (ℕ_discrete (n / 8 % 2) 1)
    where
      go : Dec (n % 2 ≡ 1) → Dec (n / 8 % 2 ≡ 1) →
          cond (of_parity 1 1 n) (g n) (cond (of_parity 0 1 n) (g n) (cond (of_parity 1 0 n) (g n) (cond (of_parity 0 0 n) (g n) z))) ≡ g n
      go (yes a) (yes b) = simp (eq-eqb (n % 2) 1 a, eq-eqb (n / 8 % 2) 1 b) refl
      go (yes a) (no b) = simp (eq-eqb (n % 2) 1 a, ne_eqb (n % 2) 0 (omega arith), ne_eqb (n / 8 % 2) 1 b, eq-eqb (n / 8 % 2) 0 (omega arith)) refl
      go (no a) (yes b) = simp (ne_eqb (n % 2) 1 a, eq-eqb (n % 2) 0 (omega arith), eq-eqb (n / 8 % 2) 1 b) refl
      go (no a) (no b) = simp (ne_eqb (n % 2) 1 a, eq-eqb (n % 2) 0 (omega arith), ne_eqb (n / 8 % 2) 1 b, eq-eqb (n / 8 % 2) 0 (omega arith)) refl

  at-parity : (u v : ℕ) (l : List ℤ) (n : ℕ) → n < 64 → get_or (parity_written c quant u v l) n (pos 0) ≡ cond (of_parity u v n) (g n) (get_or l n (pos 0))
  unfolding parity_written
  at-parity u v l n b = get_d-tab 64 _ (pos 0) n b

  pub four-parities : parity_written c quant 1 1 (parity_written c quant 0 1 (parity_written c quant 1 0 (parity_written c quant 0 0 out))) ≡ tab 64 g
  unfolding parity_written
  four-parities =
      tab-ext 64 _ _ (λ n b.
      let p = cond {A = ℤ} (of_parity 1 1 n) (g n) in
      let q = cond {A = ℤ} (of_parity 0 1 n) (g n) in
      let r = cond {A = ℤ} (of_parity 1 0 n) (g n) in
      ap p (at-parity 0 1 (parity_written c quant 1 0 (parity_written c quant 0 0 out)) n b ∙ ap q (at-parity 1 0 (parity_written c quant 0 0 out) n b ∙ ap r (at-parity 0 0 out n b))) ∙ last n (get_or out n (pos 0)))
