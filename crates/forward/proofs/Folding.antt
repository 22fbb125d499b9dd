-- Folding does not change S: the 64-term sum is the 16-term sum of the fold.
-- Assumes nothing.
use mathlib.Core.Path.{◌≡◌, refl, sym, ap, ◌∙◌}
use mathlib.Core.Bool.{Bool, true, false}
use mathlib.Core.List.{List}
use Prim.Native.Nat.{ℕ, ◌+◌, ◌-◌, ◌*◌, ◌/◌, ◌%◌, ◌<◌}
use native.Mathlib.Omega.{arith}
use borrow.Author.Tests.{lt-ltb, le-ltb}
use lib.ListN.{get_or}
use lib.IntN.{ℤ, pos, ◌+ℤ◌, ◌-ℤ◌, ◌*ℤ◌, +ℤ_assoc, +ℤ_comm, neg_ℤ-+ℤ}
use Rattle.integers.proofs.Ring.{+ℤ-left-comm, +ℤ-*ℤ, negℤ-*ℤ, *ℤ-negℤ}
use Rattle.lists.proofs.Tab.{get_d-tab}
use Rattle.basis.specs.Basis.{signed, entry, reflected, mirrors, basis}
use Rattle.basis.proofs.Mirror.{odd, mirror-x, mirror-y}
use Rattle.forward.specs.Sum.{sum_to}
use Rattle.forward.specs.Forward.{centred, scaled_sum, centred_block, centred_sum}
use Rattle.forward.specs.Parity.{mirror_signed, folded, folded_quadrant, fold_sum}
use Rattle.forward.proofs.Sum.{sum-ext, sum-add, sum_rows}

pairs : (a b c d e f g h : ℤ) → (((((((pos 0 +ℤ a) +ℤ b) +ℤ c) +ℤ d) +ℤ e) +ℤ f) +ℤ g) +ℤ h ≡ (((pos 0 +ℤ (a +ℤ h)) +ℤ (b +ℤ g)) +ℤ (c +ℤ f)) +ℤ (d +ℤ e)
pairs a b c d e f g h = simp (+ℤ_assoc, +ℤ_comm, +ℤ-left-comm)

-- the second half of eight terms, from the last on, beside the first
halves : (f : ℕ → ℤ) → sum_to 8 f ≡ sum_to 4 (λ x. f x +ℤ f (7 - x))
unfolding sum_to
halves f = pairs (f 0) (f 1) (f 2) (f 3) (f 4) (f 5) (f 6) (f 7)

-- ---- signs

signed-* : (t : Bool) (a b : ℤ) → a *ℤ signed t b ≡ signed t a *ℤ b
unfolding signed
signed-* true a b = *ℤ-negℤ a b ∙ sym (negℤ-*ℤ a b)
signed-* false a b = refl

-- c·b and d·b with its sign, together
gather : (t : Bool) (c d b : ℤ) → c *ℤ b +ℤ d *ℤ signed t b ≡ (c +ℤ signed t d) *ℤ b
gather t c d b = ap (λ (z : ℤ). c *ℤ b +ℤ z) (signed-* t d b) ∙ sym (+ℤ-*ℤ c (signed t d) b)

-- two pairs, with their signs, are a sum of four
in_pairs : (s t : Bool) (p q r w : ℤ) → (p +ℤ signed s q) +ℤ signed t (r +ℤ signed s w) ≡ p +ℤ signed s q +ℤ signed t r +ℤ signed s (signed t w)
unfolding signed
in_pairs true true p q r w = simp (neg_ℤ-+ℤ, +ℤ_assoc)
in_pairs true false p q r w = simp (+ℤ_assoc)
in_pairs false true p q r w = simp (neg_ℤ-+ℤ, +ℤ_assoc)
in_pairs false false p q r w = simp (+ℤ_assoc)

abbrev at : List ℤ → ℕ → ℕ → ℤ
at c x y = get_or c (8 * y + x) (pos 0)

-- the pair of row y, and that of the mirrored row
abbrev pub pairs_at : List ℤ → Bool → Bool → ℕ → ℕ → ℤ
pairs_at c s t x y = (at c x y +ℤ signed s (at c (7 - x) y)) +ℤ signed t (at c x (7 - y) +ℤ signed s (at c (7 - x) (7 - y)))

-- that is the fold
pub pairs-fold : (c : List ℤ) (u v x y : ℕ) → x < 4 → y < 4 → pairs_at c (odd u) (odd v) x y ≡ folded c u v x y
unfolding folded mirror_signed signed mirrors
pairs-fold c u v x y h k =
    simp (le-ltb 3 x (omega arith), le-ltb 3 y (omega arith), lt-ltb 3 (7 - x) (omega arith), lt-ltb 3 (7 - y) (omega arith))
    (in_pairs (odd u) (odd v) (at c x y) (at c (7 - x) y) (at c x (7 - y)) (at c (7 - x) (7 - y)))

-- below 4 nothing is mirrored
inside : (n x y : ℕ) → x < 4 → y < 4 → basis n x y ≡ entry n y x
unfolding basis signed mirrors reflected
inside n x y h k = simp (le-ltb 3 x (omega arith), le-ltb 3 y (omega arith)) refl

-- the sum of a block is that of its centred samples
pub sum-centred : (centre : ℕ) (block : List ℕ) (n : ℕ) → centred_sum (centred_block centre block) n ≡ scaled_sum centre block n
unfolding centred_sum centred_block scaled_sum centred
sum-centred centre block n =
    sum-ext 64 _ _ (λ i b.
    let e : i ≡ 8 * (i / 8) + i % 8 = omega arith in
    ap (λ (z : ℤ). z *ℤ basis n (i % 8) (i / 8)) (get_d-tab 64 (λ j. pos (get_or block j 0) -ℤ pos centre) (pos 0) i b ∙ ap (λ (j : ℕ). pos (get_or block j 0) -ℤ pos centre) e))

module _ (samples : List ℤ) (n : ℕ) where
  abbrev c : ℕ → ℕ → ℤ
  c = at samples

  abbrev u : Bool
  u = odd (n % 8)

  abbrev v : Bool
  v = odd (n / 8)

  -- a row's eight terms are four
  row : (y : ℕ) → sum_to 8 (λ x. c x y *ℤ basis n x y) ≡ sum_to 4 (λ x. (c x y +ℤ signed u (c (7 - x) y)) *ℤ basis n x y)
  row y =
      halves (λ x. c x y *ℤ basis n x y)
      ∙ sum-ext 4 _ _ (λ x b. ap (λ (z : ℤ). c x y *ℤ basis n x y +ℤ c (7 - x) y *ℤ z) (mirror-x n x y (omega arith)) ∙ gather u (c x y) (c (7 - x) y) (basis n x y))

  -- a sample of a row, with its mirror
  abbrev d : ℕ → ℕ → ℤ
  d x y = c x y +ℤ signed u (c (7 - x) y)

  abbrev half : ℕ → ℤ
  half y = sum_to 4 (λ x. d x y *ℤ basis n x y)

  -- two rows' four terms are four terms of the fold
  rows : (y : ℕ) → y < 4 → half y +ℤ half (7 - y) ≡ sum_to 4 (λ x. folded samples (n % 8) (n / 8) x y *ℤ entry n y x)
  rows y b =
      sum-add 4 (λ x. d x y *ℤ basis n x y) (λ x. d x (7 - y) *ℤ basis n x (7 - y))
      ∙ sum-ext 4 _ _ (λ x a.
      ap (λ (z : ℤ). d x y *ℤ basis n x y +ℤ d x (7 - y) *ℤ z) (mirror-y n x y (omega arith)) ∙ gather v (d x y) (d x (7 - y)) (basis n x y)
      ∙ (λ i. pairs-fold samples (n % 8) (n / 8) x y a b i *ℤ inside n x y a b i))

  -- a term of the fold's sum
  abbrev G : ℕ → ℤ
  G k = folded samples (n % 8) (n / 8) (k % 4) (k / 4) *ℤ entry n (k / 4) (k % 4)

  fold-terms : centred_sum samples n ≡ sum_to 16 G
  unfolding centred_sum
  fold-terms =
      let F : ℕ → ℤ = λ i. get_or samples i (pos 0) *ℤ basis n (i % 8) (i / 8) in
      sum_rows F 8 8
      ∙ sum-ext 8 _ _ (λ y b. sum-ext 8 _ _ (λ x a.
      let q : (y * 8 + x) / 8 ≡ y = omega arith in
      let r : (y * 8 + x) % 8 ≡ x = omega arith in
      let e : y * 8 + x ≡ 8 * y + x = omega arith in
      λ i. get_or samples (e i) (pos 0) *ℤ basis n (r i) (q i)) ∙ row y)
      ∙ halves half
      ∙ sum-ext 4 _ _ (λ y b. rows y b ∙ sum-ext 4 _ _ (λ x a.
      let q : y ≡ (y * 4 + x) / 4 = omega arith in
      let r : x ≡ (y * 4 + x) % 4 = omega arith in
      λ i. folded samples (n % 8) (n / 8) (r i) (q i) *ℤ entry n (q i) (r i)))
      ∙ sym (sum_rows G 4 4)

  -- folding does not change S
  pub fold-sum : centred_sum samples n ≡ fold_sum (folded_quadrant samples (n % 8) (n / 8)) n
  unfolding fold_sum folded_quadrant
  fold-sum =
      fold-terms
      ∙ sum-ext 16 _ _ (λ k b. ap (λ (z : ℤ). z *ℤ entry n (k / 4) (k % 4)) (sym (get_d-tab 16 (λ j. folded samples (n % 8) (n / 8) (j % 4) (j / 4)) (pos 0) k b)))
