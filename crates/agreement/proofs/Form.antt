-- A float that is near a linear form of eight integers, and one step of each kind on such: the forms are computed, and the error is counted.
-- Assumes nothing.
use mathlib.Core.Path.{◌≡◌, sym, ap, ◌∙◌}
use mathlib.Core.Bool.{Bool, false, ◌&&◌}
use mathlib.Core.List.{List}
use Prim.Native.Nat.{ℕ, ◌+◌, ◌*◌, ◌^◌, ◌≤◌, ◌<◌, zero-le}
use native.Mathlib.Nat.{le_trans, le_of_eq, lt_of_mul-lt-mul_right, mul-le-mul_left, mul-le-mul_right, mul-pos, mul_assoc, add-mul}
use native.Mathlib.Omega.{arith}
use lib.Dec.{T, ltb, leb, ltb→lt, leb→le}
use lib.Pow.{pow_pos}
use mir.Facts.{and_yes}
use lib.ListN.{get_or}
use lib.IntN.{ℤ, pos, negsuc, neg_ℤ, nat_abs, ◌+ℤ◌, ◌-ℤ◌, ◌*ℤ◌}
use lib.Ieee.{Float, binary64, add, sub, mul, neg}
use lib.Ieee.Exact.{HasValue}
use Rattle.integers.specs.Linear.{dot, weight}
use Rattle.integers.proofs.Difference.{dif-eq, by-dif, differences}
use Rattle.integers.proofs.Ring.{nat_abs-+, nat_abs-*, *ℤ-negℤ, *ℤ-+ℤ, *ℤ-assoc, *ℤ-left-comm}
use Rattle.integers.proofs.Linear.{◌⊕◌, ◌⊙◌, ◌⊖◌, unit, dot-⊕, dot-⊙, dot-unit}
use Rattle.integers.proofs.Bound.{nat_abs-dot}
use Rattle.integers.proofs.Distance.{through, times-near, sum_near, neg-near, size-near}
use Rattle.guarded_quantizer.proofs.Operations.{Worth, Rounded, add_step, neg-worth, mul-step}

-- F times x is within l·2^K units of the form u of z
pub record Form (z : List ℤ) (K F : ℕ) (u : List ℤ) (l : ℕ) (x : Float) : Type 0 where
  pub units : ℤ
  pub worth : Worth x units
  pub near : nat_abs (pos F *ℤ units -ℤ dot u z) ≤ l * 2 ^ K

-- the eight numbers: small enough for the steps of a pass
pub record Inputs (z : List ℤ) (K : ℕ) : Type 0 where
  pub bound : ℕ
  pub small : (k : ℕ) → nat_abs (get_or z k (pos 0)) ≤ bound
  pub least : K ≤ 2044
  pub room : 64 * bound ≤ 2 ^ 53 * 2 ^ K

-- what a step asks, a computed test: F is the unit before the step and D-as-F after it, w the weight of the exact result, l the error before
abbrev pub fine : ℕ → ℕ → ℕ → ℕ → Bool
fine F D w l = ltb 0 F && (ltb 0 D && (leb w (32 * (D * F)) && leb l (2 ^ 51 * (D * F))))

module _ {z : List ℤ} {K : ℕ} (I : Inputs z K) where
  abbrev B : ℕ
  B = I.bound

  -- the result, r in size, is small enough to round within 2^K
  fits : (F D w l r : ℕ) → T (fine F D w l) → F * r ≤ w * B + l * 2 ^ K → (0 < D) × (r < 2 ^ 53 * (D * 2 ^ K))
  fits F D w l r t h =
      let one = and_yes (ltb 0 F) _ t in
      let two = and_yes (ltb 0 D) _ one.1 in
      let three = and_yes (leb w (32 * (D * F))) (leb l (2 ^ 51 * (D * F))) two.1 in
      let p_f = ltb→lt 0 F one.0 in
      let p_d = ltb→lt 0 D two.0 in
      (p_d, lt_of_mul-lt-mul_right F (go B (2 ^ K) (w * B) (l * 2 ^ K) (mul-le-mul_right B (leb→le _ _ three.0)) (mul-le-mul_right (2 ^ K) (leb→le _ _ three.1)) (mul-le-mul_right (D * F) I.room) (mul-pos (mul-pos p_d p_f) (pow_pos K)) h))
    where
      go : (B E w_b l_e : ℕ) → w_b ≤ 32 * (D * F) * B → l_e ≤ 2 ^ 51 * (D * F) * E → 64 * B * (D * F) ≤ 2 ^ 53 * E * (D * F) → 0 < D * F * E → F * r ≤ w_b + l_e → r * F < 2 ^ 53 * (D * E) * F
      go B E w_b l_e a b c d e = omega arith

  -- the size of F times the number, by its form
  reach : {F l : ℕ} {u : List ℤ} {x : Float} (p : Form z K F u l x) → F * nat_abs p.units ≤ weight u * B + l * 2 ^ K
  reach {F} {l} {u} p = omega (arith, nat_abs-* (pos F) p.units, size-near (pos F *ℤ p.units) (dot u z), nat_abs-dot u z B I.small, p.near)

  -- one of the eight
  pub enter : {x : Float} (k : ℕ) → Worth x (get_or z k (pos 0)) → Form z K 1 (unit k) 0 x
  enter k w = record { units = get_or z k (pos 0); worth = w; near = le_trans (le_of_eq (ap (λ (t : ℤ). nat_abs (pos 1 *ℤ get_or z k (pos 0) -ℤ t)) (dot-unit k z) ∙ same (get_or z k (pos 0)))) zero-le }
    where
      same : (a : ℤ) → nat_abs (pos 1 *ℤ a -ℤ a) ≡ 0
      same = by-dif _ λ a b. simp differences (omega arith)

  -- a rounded result r of t / D, where F times t is near d
  after : (F l : ℕ) (d : ℤ) {D : ℕ} {t : ℤ} {r : Float} (w : Rounded r t D K) → nat_abs (pos F *ℤ t -ℤ d) ≤ l * 2 ^ K → nat_abs (pos (D * F) *ℤ w.units -ℤ d) ≤ (l + D * F) * 2 ^ K
  after F l d {D} {t} w h =
      le_trans (through (pos (D * F) *ℤ w.units) (pos F *ℤ t) d (le_trans (le_of_eq (ap (λ (k : ℤ). nat_abs (k -ℤ pos F *ℤ t)) (turn D F w.units))) (times-near F (pos D *ℤ w.units) t w.near)) h)
      (le_of_eq (count F D l (2 ^ K)))
    where
      turn : (D F : ℕ) (a : ℤ) → pos (D * F) *ℤ a ≡ pos F *ℤ (pos D *ℤ a)
      turn D F = by-dif _ λ a b. simp differences (dif-eq _ _ _ _ (omega arith))

      count : (F D l E : ℕ) → F * (D * E) + l * E ≡ (l + D * F) * E
      count F D l E = omega arith

  pub plus : {F l l' : ℕ} {u v : List ℤ} {x y : Float} → Form z K F u l x → Form z K F v l' y → T (fine F 1 (weight u + weight v) (l + l')) → Form z K (1 * F) (u ⊕ v) (l + l' + 1 * F) (add binary64 x y)
  plus {F} {l} {l'} {u} {v} p q t =
      let s = p.units +ℤ q.units in
      let both : nat_abs (pos F *ℤ s -ℤ dot (u ⊕ v) z) ≤ (l + l') * 2 ^ K =
      le_trans (le_of_eq (ap nat_abs (λ i. *ℤ-+ℤ (pos F) p.units q.units i -ℤ dot-⊕ u v z i)))
      (le_trans (sum_near (pos F *ℤ p.units) (dot u z) (pos F *ℤ q.units) (dot v z) p.near q.near) (le_of_eq (sym (add-mul l l' (2 ^ K))))) in
      let size : F * nat_abs s ≤ (weight u + weight v) * B + (l + l') * 2 ^ K = most F (nat_abs p.units) (nat_abs q.units) (nat_abs s) (weight u) (weight v) l l' (2 ^ K) B (nat_abs-+ p.units q.units) (reach p) (reach q) in
      let w = add_step K I.least p.worth q.worth (fits F 1 (weight u + weight v) (l + l') (nat_abs s) t size).1 in
      record { units = w.units; worth = w.worth; near = after F (l + l') (dot (u ⊕ v) z) w both }
    where
      most : (F a b s m n l l' E B : ℕ) → s ≤ a + b → F * a ≤ m * B + l * E → F * b ≤ n * B + l' * E → F * s ≤ (m + n) * B + (l + l') * E
      most F a b s m n l l' E B h p q = let k = mul-le-mul_left F h in omega arith

  negate : {F l : ℕ} {u : List ℤ} {x : Float} → Form z K F u l x → Form z K F (negsuc 0 ⊙ u) l (neg x)
  negate {F} {l} {u} p =
      record {
        units = neg_ℤ p.units;
        worth = neg-worth p.worth;
        near = le_trans (le_of_eq (ap nat_abs (λ i. *ℤ-negℤ (pos F) p.units i -ℤ (dot-⊙ (negsuc 0) u z ∙ minus (dot u z)) i) ∙ neg-near (pos F *ℤ p.units) (dot u z))) p.near;
      }
    where
      minus : (a : ℤ) → negsuc 0 *ℤ a ≡ neg_ℤ a
      minus = by-dif _ λ a b. simp differences (dif-eq _ _ _ _ (omega arith))

  pub minus : {F l l' : ℕ} {u v : List ℤ} {x y : Float} → Form z K F u l x → Form z K F v l' y → T (fine F 1 (weight u + weight (negsuc 0 ⊙ v)) (l + l')) → Form z K (1 * F) (u ⊖ v) (l + l' + 1 * F) (sub binary64 x y)
  unfolding sub
  minus p q t = plus p (negate q) t

  -- times C / D
  pub times : (y : Float) (C D : ℕ) {F l : ℕ} {u : List ℤ} {x : Float} → HasValue y false C D → Form z K F u l x → T (fine F D (C * weight u) (C * l)) → Form z K (D * F) (pos C ⊙ u) (C * l + D * F) (mul binary64 x y)
  times y C D {F} {l} {u} {x} h p k =
      let t = pos C *ℤ p.units in
      let both : nat_abs (pos F *ℤ t -ℤ dot (pos C ⊙ u) z) ≤ C * l * 2 ^ K =
      le_trans (le_of_eq (ap nat_abs (λ i. *ℤ-left-comm (pos F) (pos C) p.units i -ℤ dot-⊙ (pos C) u z i)))
      (le_trans (times-near C (pos F *ℤ p.units) (dot u z) p.near) (le_of_eq (sym (mul_assoc C l (2 ^ K))))) in
      let size : F * nat_abs t ≤ C * weight u * B + C * l * 2 ^ K = most F C (nat_abs p.units) (nat_abs t) (weight u) l (2 ^ K) B (nat_abs-* (pos C) p.units) (reach p) in
      let f = fits F D (C * weight u) (C * l) (nat_abs t) k size in
      let w = mul-step K I.least y C D f.0 h p.worth f.1 in
      record { units = w.units; worth = w.worth; near = after F (C * l) (dot (pos C ⊙ u) z) w both }
    where
      most : (F C a t m l E B : ℕ) → t ≡ C * a → F * a ≤ m * B + l * E → F * t ≤ C * m * B + C * l * E
      most F C a t m l E B h p = let k = mul-le-mul_left C p in rw h (omega arith)

  pub lift : (D : ℕ) {F l : ℕ} {u : List ℤ} {x : Float} → Form z K F u l x → Form z K (D * F) (pos D ⊙ u) (D * l) x
  lift D {F} {l} {u} p =
      record {
        units = p.units;
        worth = p.worth;
        near = le_trans (le_of_eq (ap nat_abs (λ i. *ℤ-assoc (pos D) (pos F) p.units i -ℤ dot-⊙ (pos D) u z i))) (le_trans (times-near D (pos F *ℤ p.units) (dot u z) p.near) (le_of_eq (sym (mul_assoc D l (2 ^ K)))));
      }
