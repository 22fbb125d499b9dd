-- One operation of binary64 in whole numbers. The unit is the format's smallest value, 2 ^ -1074. A result that is smaller than
-- 2 ^ (53 + K) units in absolute value is within 2 ^ K units of the exact one (`round-near`).
-- Assumes nothing.
use Rattle.std.specs.Prelude.{◌≡◌, ℕ, zero, suc, ◌+◌, ◌-◌, ◌*◌, ◌^◌, ◌<◌, ◌≤◌, Bool, true, false, cond, not, ◌&&◌, T, eqb, ltb, ℤ, pos, negsuc, ◌+ℤ◌, ◌-ℤ◌, ◌*ℤ◌, neg_ℤ, nat_abs}
use mathlib.Core.Path.{refl, sym, ap, ◌∙◌, subst}
use native.Mathlib.Nat.{mul_comm, suc-mul, mul-pos}
use native.Mathlib.Omega.{arith}
use borrow.Author.Tests.{eqb-true}
use lib.Dec.{ltb→lt, nltb→le}
use lib.Pow.{pow-add, pow_pos}
use lib.IntN.{neg_ℤ-neg_ℤ, neg_ℤ-+ℤ, pos-+ℤ-pos, negsuc-*ℤ-pos, *ℤ_comm}
use lib.Ieee.{Float, nan, inf, fin, binary64, up, down, round, unlike, sum, neg, add, mul, div}
use lib.Ieee.Fits.{down_pos}
use lib.Ieee.Exact.{HasValue}
use lib.Ieee.Scale.{round_same}
use lib.Ieee.Positive.{first_pos}
use Rattle.integers.proofs.Difference.{dif-eq, dif-inj, differences, distance, pos-dif, neg-dif}
use Rattle.integers.proofs.Ring.{nat_abs-neg, nat_abs-*, negℤ-*ℤ, +ℤ-*ℤ}
use Rattle.guarded_quantizer.proofs.Error.{round-near}

-- ---- n, negated where s
abbrev pub value_of : Bool → ℕ → ℤ
value_of false n = pos n
value_of true n = neg_ℤ (pos n)

pub value-size : (s : Bool) (n : ℕ) → nat_abs (value_of s n) ≡ n
value-size false n = refl
value-size true n = nat_abs-neg (pos n)

pub value-times : (s : Bool) (n c : ℕ) → value_of s n *ℤ pos c ≡ value_of s (n * c)
value-times false n c = refl
value-times true n c = negℤ-*ℤ (pos n) (pos c)

opposite : (a b : ℕ) → pos a ≡ neg_ℤ (pos b) → a + b ≡ 0
opposite a b e = dif-inj a 0 0 b (sym (pos-dif a) ∙ e ∙ neg-dif b)

value_not : (s : Bool) (n : ℕ) → value_of (not s) n ≡ neg_ℤ (value_of s n)
value_not false n = refl
value_not true n = sym (neg_ℤ-neg_ℤ (pos n))

-- a sign of a multiple of t is one of t
value-nat_abs : (s : Bool) (x c : ℕ) (t : ℤ) → 0 < c → value_of s x ≡ t *ℤ pos c → value_of s (nat_abs t) ≡ t
value-nat_abs false x c (pos k) C e = refl
value-nat_abs true x c (negsuc k) C e = refl
value-nat_abs true x c (pos zero) C e = refl
value-nat_abs true x c (pos (suc k)) C e = let z = opposite (suc k * c) x (sym e) in absurd (omega (arith, suc-mul k c))
value-nat_abs false x c (negsuc k) C e = let z = opposite x (suc k * c) (e ∙ negsuc-*ℤ-pos k c) in absurd (omega (arith, suc-mul k c))

-- x is finite, and is z units
pub record Worth (x : Float) (z : ℤ) : Type 0 where
  pub sign : Bool
  pub size : ℕ
  pub value : HasValue x sign size (2 ^ 1074)
  pub is : value_of sign size ≡ z

-- x is t / D units, rounded: z units, and D·z is within D·2^K of t
pub record Rounded (x : Float) (t : ℤ) (D K : ℕ) : Type 0 where
  pub units : ℤ
  pub worth : Worth x units
  pub near : nat_abs (pos D *ℤ units -ℤ t) ≤ D * 2 ^ K

-- the step that all operations share: x is p / c, rounded, which is t / D units
step : {x : Float} (s : Bool) (p c D K : ℕ) {t : ℤ} → 0 < c → 0 < D → K ≤ 2044 → nat_abs t < 2 ^ 53 * (D * 2 ^ K) → x ≡ round binary64 s p c → value_of s (p * (D * 2 ^ 1074)) ≡ t *ℤ pos c → Rounded x t D K
step s p c D K {t} C P k h e q =
    let a : ℕ = nat_abs t in
    let same : p * (D * 2 ^ 1074) ≡ a * c = sym (value-size s (p * (D * 2 ^ 1074))) ∙ ap nat_abs q ∙ nat_abs-* t (pos c) in
    let r = round-near s a D K P (rw (pow-add 2 53 K) (most (2 ^ K) h)) k in
    record {
      units = value_of s r.0;
      worth = record { sign = s; size = r.0; value = subst (λ (y : Float). HasValue y s r.0 (2 ^ 1074)) (sym (e ∙ round_same binary64 s p c a (D * 2 ^ 1074) C (mul-pos P (pow_pos 1074)) same)) r.1; is = refl };
      near = subst (λ (z : ℤ). nat_abs (pos D *ℤ value_of s r.0 -ℤ z) ≤ D * 2 ^ K) (value-nat_abs s (p * (D * 2 ^ 1074)) c t C q) (close s r.0 a (D * 2 ^ K) r.2 r.3);
    }
  where
    most : (E : ℕ) → nat_abs t < 2 ^ 53 * (D * E) → nat_abs t < 2 ^ 53 * E * D
    most E h = omega arith

    close : (s : Bool) (v a E : ℕ) → v * D ≤ a + E → a ≤ v * D + E → nat_abs (pos D *ℤ value_of s v -ℤ value_of s a) ≤ E
    close false v a E x y = omega (arith, distance (D * v) a)
    close true v a E x y = simp differences (omega arith)

-- ---- the sum
sum-exact : (s : Bool) (a : ℕ) (t : Bool) (b c : ℕ) → (σ : Bool) × (p : ℕ) × (sum binary64 s a t b c ≡ round binary64 σ p c) × (value_of σ p ≡ value_of s a +ℤ value_of t b)
unfolding sum
sum-exact false a false b c = (false, a + b, refl, sym (pos-+ℤ-pos a b))
sum-exact true a true b c = (true, a + b, refl, ap neg_ℤ (sym (pos-+ℤ-pos a b)) ∙ neg_ℤ-+ℤ (pos a) (pos b))
sum-exact false a true b c = go (ltb a b) (ltb→lt a b) (nltb→le a b)
  where
    go : (w : Bool) → (T w → a < b) → (T (not w) → b ≤ a) → (σ : Bool) × (p : ℕ) × (cond w (round binary64 true (b - a) c) (round binary64 false (a - b) c) ≡ round binary64 σ p c) × (value_of σ p ≡ pos a +ℤ neg_ℤ (pos b))
    go true l g = let o = l tt in (true, b - a, refl, simp differences (dif-eq _ _ _ _ (omega arith)))
    go false l g = let o = g tt in (false, a - b, refl, simp differences (dif-eq _ _ _ _ (omega arith)))
sum-exact true a false b c = go (ltb a b) (ltb b a) (ltb→lt a b) (nltb→le a b) (nltb→le b a)
  where
    go : (w u : Bool) → (T w → a < b) → (T (not w) → b ≤ a) → (T (not u) → a ≤ b) → (σ : Bool) × (p : ℕ) × (cond w (round binary64 false (b - a) c) (round binary64 (true && u) (a - b) c) ≡ round binary64 σ p c) × (value_of σ p ≡ neg_ℤ (pos a) +ℤ pos b)
    go true u l g h = let o = l tt in (false, b - a, refl, simp differences (dif-eq _ _ _ _ (omega arith)))
    go false true l g h = let o = g tt in (true, a - b, refl, simp differences (dif-eq _ _ _ _ (omega arith)))
    go false false l g h = let o = g tt in let o' = h tt in (false, a - b, refl, simp differences (dif-eq _ _ _ _ (omega arith)))

-- what an operation on finite floats gives to `step`: over the units N
abbrev Exact : Float → ℤ → ℕ → Type 0
Exact x t N = (s : Bool) × (p : ℕ) × (c : ℕ) × (0 < c) × (x ≡ round binary64 s p c) × (value_of s (p * N) ≡ t *ℤ pos c)

add-exact : (N : ℕ) (x y : Float) (s : Bool) (a : ℕ) (t : Bool) (b : ℕ) → HasValue x s a N → HasValue y t b N → Exact (add binary64 x y) (value_of s a +ℤ value_of t b) N
unfolding add
add-exact N nan y s a t b h k = absurd h
add-exact N (inf u) y s a t b h k = absurd h
add-exact N (fin u m e) nan s a t b h k = absurd k
add-exact N (fin u m e) (inf w) s a t b h k = absurd k
add-exact N (fin u m e) (fin w n d) s a t b h k =
    let c : ℕ = down e * down d in
    let r = sum-exact u (m * up e * down d) w (n * up d * down e) c in
    let left : m * up e * down d * N ≡ a * c = over (m * up e) (down e) (down d) a h.1 in
    let right : n * up d * down e * N ≡ b * c = over (n * up d) (down d) (down e) b k.1 ∙ ap (λ (z : ℕ). b * z) (mul_comm (down d) (down e)) in (
      r.0,
      r.1,
      c,
      mul-pos (down_pos e) (down_pos d),
      r.2,
      sym (value-times r.0 r.1 N) ∙ ap (λ (z : ℤ). z *ℤ pos N) r.3 ∙ +ℤ-*ℤ (value_of u (m * up e * down d)) (value_of w (n * up d * down e)) (pos N)
          ∙ (λ i. (value-times u (m * up e * down d) N ∙ (λ j. value_of (h.0 j) (left j)) ∙ sym (value-times s a c)) i +ℤ (value-times w (n * up d * down e) N ∙ (λ j. value_of (k.0 j) (right j)) ∙ sym (value-times t b c)) i)
          ∙ sym (+ℤ-*ℤ (value_of s a) (value_of t b) (pos c)),
    )
  where
    over : (x e d a : ℕ) → x * N ≡ a * e → x * d * N ≡ a * (e * d)
    over x e d a h = let k = ap (λ (z : ℕ). z * d) h in omega arith

module _ (K : ℕ) (k : K ≤ 2044) {x : Float} {a : ℤ} where
  pub add_step : {y : Float} {b : ℤ} → Worth x a → Worth y b → nat_abs (a +ℤ b) < 2 ^ 53 * (1 * 2 ^ K) → Rounded (add binary64 x y) (a +ℤ b) 1 K
  add_step {y} {b} p q h =
      let w = add-exact (2 ^ 1074) x y p.sign p.size q.sign q.size p.value q.value in
      step w.0 w.1 w.2 1 K w.3 (pow_pos 0) k h w.4 (w.5 ∙ ap (λ (z : ℤ). z *ℤ pos w.2) (λ i. p.is i +ℤ q.is i))

neg_value : (x : Float) (s : Bool) (a c : ℕ) → HasValue x s a c → HasValue (neg x) (not s) a c
unfolding neg
neg_value nan s a c h = absurd h
neg_value (inf t) s a c h = absurd h
neg_value (fin t m e) s a c h = (ap not h.0, h.1)

pub neg-worth : {x : Float} {a : ℤ} → Worth x a → Worth (neg x) (neg_ℤ a)
neg-worth {x} p = record { sign = not p.sign; size = p.size; value = neg_value x p.sign p.size (2 ^ 1074) p.value; is = value_not p.sign p.size ∙ ap neg_ℤ p.is }

-- ---- the product with C / D, and the reciprocal
unlike-false : (u w : Bool) → w ≡ false → unlike u w ≡ u
unlike-false u w e = ap (λ (z : Bool). unlike u z) e ∙ go u
  where
    go : (u : Bool) → unlike u false ≡ u
    go true = refl
    go false = refl

mul-exact : (N : ℕ) (x y : Float) (s : Bool) (a C D : ℕ) → HasValue x s a N → HasValue y false C D → Exact (mul binary64 x y) (pos C *ℤ value_of s a) (D * N)
unfolding mul
mul-exact N nan y s a C D h k = absurd h
mul-exact N (inf u) y s a C D h k = absurd h
mul-exact N (fin u m e) nan s a C D h k = absurd k
mul-exact N (fin u m e) (inf w) s a C D h k = absurd k
mul-exact N (fin u m e) (fin w n d) s a C D h k = (
  s,
  m * up e * (n * up d),
  down e * down d,
  mul-pos (down_pos e) (down_pos d),
  ap (λ (z : Bool). round binary64 z (m * up e * (n * up d)) (down e * down d)) (unlike-false u w k.0 ∙ h.0),
  ap (value_of s) (over (m * up e) (down e) (n * up d) (down d) h.1 k.1) ∙ sym (value-times s (a * C) (down e * down d)) ∙ ap (λ (z : ℤ). z *ℤ pos (down e * down d)) (sym (value-times s a C) ∙ *ℤ_comm (value_of s a) (pos C)),
)
  where
    over : (x e y d : ℕ) → x * N ≡ a * e → y * D ≡ C * d → x * y * (D * N) ≡ a * C * (e * d)
    over x e y d f g = let z : x * N * (y * D) ≡ a * e * (C * d) = λ i. f i * g i in omega arith

pub mul-step : (K : ℕ) → K ≤ 2044 → {x : Float} {a : ℤ} (y : Float) (C D : ℕ) → 0 < D → HasValue y false C D → Worth x a → nat_abs (pos C *ℤ a) < 2 ^ 53 * (D * 2 ^ K) → Rounded (mul binary64 x y) (pos C *ℤ a) D K
mul-step K k {x} {a} y C D P h p l =
    let w = mul-exact (2 ^ 1074) x y p.sign p.size C D p.value h in
    step w.0 w.1 w.2 D K w.3 P k l w.4 (w.5 ∙ ap (λ (z : ℤ). (pos C *ℤ z) *ℤ pos w.2) p.is)

div-exact : (N : ℕ) (one x : Float) (p : ℕ) → 0 < N → 0 < p → HasValue one false 1 1 → HasValue x false p N → Exact (div binary64 one x) (pos (N * N)) (p * N)
unfolding div
div-exact N nan x p O P h k = absurd h
div-exact N (inf s) x p O P h k = absurd h
div-exact N (fin s m e) nan p O P h k = absurd k
div-exact N (fin s m e) (inf t) p O P h k = absurd k
div-exact N (fin s m e) (fin t n d) p O P h k = go (eqb n 0) refl
  where
    some : 0 < n * up d
    some = first_pos (n * up d) N (subst (λ (z : ℕ). 0 < z) (sym k.1) (mul-pos P (down_pos d)))

    over : (a e b d : ℕ) → a * 1 ≡ 1 * e → b * N ≡ p * d → a * d * (p * N) ≡ N * N * (b * e)
    over a e b d f g = let one : a ≡ e = omega arith in let more : b * N * (e * N) ≡ p * d * (e * N) = ap (λ (z : ℕ). z * (e * N)) g in rw one (omega arith)

    go : (z : Bool) → eqb n 0 ≡ z → Exact (cond z (cond (eqb m 0) nan (inf (unlike s t))) (round binary64 (unlike s t) (m * up e * down d) (n * up d * down e))) (pos (N * N)) (p * N)
    go true z = absurd (let o = first_pos n (up d) some in let e = eqb-true n 0 z in omega arith)
    go false z = (
      false,
      m * up e * down d,
      n * up d * down e,
      mul-pos some (down_pos e),
      ap (λ (b : Bool). round binary64 b (m * up e * down d) (n * up d * down e)) (unlike-false s t k.0 ∙ h.0),
      ap pos (over (m * up e) (down e) (n * up d) (down d) h.1 k.1),
    )

pub div-step : (K : ℕ) → K ≤ 2044 → (one x : Float) (p : ℕ) → 0 < p → HasValue one false 1 1 → HasValue x false p (2 ^ 1074) → 2 ^ 1074 * 2 ^ 1074 < 2 ^ 53 * (p * 2 ^ K) → Rounded (div binary64 one x) (pos (2 ^ 1074 * 2 ^ 1074)) p K
div-step K k one x p P h v l =
    let w = div-exact (2 ^ 1074) one x p (pow_pos 1074) P h v in
    step w.0 w.1 w.2 p K w.3 P k l w.4 w.5

-- ---- a float that, c times, is near a number a above zero, is above zero itself
pub record Above (x : Float) (c a e : ℕ) : Type 0 where
  pub size : ℕ
  pub value : HasValue x false size (2 ^ 1074)
  pub most : c * size ≤ a + e
  pub least : a ≤ c * size + e

pub above : {x : Float} {a c K : ℕ} → c * 2 ^ K < a → Rounded x (pos a) c K → Above x c a (c * 2 ^ K)
above {x} {a} {c} {K} h r = go r.worth.sign r.worth.size (c * 2 ^ K) h r.worth.value (subst (λ (z : ℤ). nat_abs (pos c *ℤ z -ℤ pos a) ≤ c * 2 ^ K) (sym r.worth.is) r.near)
  where
    go : (s : Bool) (n e : ℕ) → e < a → HasValue x s n (2 ^ 1074) → nat_abs (pos c *ℤ value_of s n -ℤ pos a) ≤ e → Above x c a e
    go false n e h v k = record { size = n; value = v; most = omega (arith, distance (c * n) a); least = omega (arith, distance (c * n) a) }
    go true n e h v k = absurd (let k' = simp differences at k in omega arith)
