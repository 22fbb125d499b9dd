-- The transform of a block in binary64 against the exact one: rows, then columns.
-- Assumes nothing.
use mathlib.Core.Path.{◌≡◌, refl, sym, ap, ◌∙◌, subst}
use mathlib.Core.Bool.{Bool, false}
use mathlib.Core.List.{List, []}
use Prim.Native.Nat.{ℕ, ◌+◌, ◌*◌, ◌/◌, ◌%◌, ◌^◌, ◌≤◌, ◌<◌, zero-le}
use native.Mathlib.Nat.{le_trans, le_of_eq, add-le-add, lt_of_le_of_lt, mul-le-mul_left, mul-le-mul_right, mul_comm, le_of_mul-le-mul_left}
use native.Mathlib.Omega.{arith}
use lib.Dec.{lit<, lit≤}
use lib.ListN.{length, get_or}
use lib.IntN.{ℤ, pos, neg_ℤ, nat_abs, ◌+ℤ◌, ◌-ℤ◌, ◌*ℤ◌, *ℤ_comm}
use lib.Ieee.{Float, nan, inf, fin, up, down, binary64, round, sub, of_int}
use lib.Ieee.Exact.{HasValue}
use lib.Ieee.Back.{round_whole}
use Rattle.integers.proofs.Difference.{dif-eq, by-dif, differences, distance}
use Rattle.integers.proofs.Ring.{ring, nat_abs-*, *ℤ-assoc}
use Rattle.integers.proofs.Distance.{through, times-minus, times-near, distance-sym, size-near}
use Rattle.lists.proofs.Below.{each-8}
use Rattle.lists.specs.Tab.{tab}
use Rattle.lists.proofs.Tab.{get_d-tab, get_d-every}
use Rattle.forward.specs.Sum.{sum_to}
use Rattle.forward.proofs.Sum.{sum-ext, sum-scale, sum-block, row-sum}
use Rattle.forward.proofs.Scaled.{nat_abs-products, sums-near}
use Rattle.guarded_quantizer.specs.Literals.{decimal}
use Rattle.guarded_quantizer.specs.Transform.{fdct8}
use Rattle.guarded_quantizer.specs.Values.{level_shifted, row, column, fdct_value}
use Rattle.guarded_quantizer.proofs.Operations.{Worth, Rounded, add_step, neg-worth}
use Rattle.agreement.specs.Budget.{Apart}
use Rattle.agreement.specs.Exact.{one, matrix}
use Rattle.agreement.proofs.Form.{Form}
use Rattle.agreement.proofs.Pass.{pass}
use Rattle.agreement.proofs.Products.{gain, product_of, product, gains-weight, products-weight}

abbrev pub L : ℕ
L = 2 ^ 1074

abbrev pub E : ℕ
E = 2 ^ 1041

-- a float's value over a larger divisor
pub rescaled : (x : Float) (s : Bool) (a c k : ℕ) → HasValue x s a c → HasValue x s (a * k) (c * k)
rescaled nan s a c k h = absurd h
rescaled (inf t) s a c k h = absurd h
rescaled (fin t m e) s a c k h = (h.0, go (m * up e) (down e) h.1)
  where
    go : (n d : ℕ) → n * c ≡ a * d → n * (c * k) ≡ a * k * d
    go n d q = let q' : n * c * k ≡ a * d * k = ap (λ (z : ℕ). z * k) q in omega arith

pub whole-worth : (n : ℕ) → n ≤ 2 ^ 53 → Worth (of_int binary64 (pos n)) (pos (n * L))
unfolding of_int
whole-worth n h = record { sign = false; size = n * L; value = rescaled (round binary64 false n 1) false n 1 L (round_whole binary64 false n h); is = refl }

centre-worth : Worth (decimal 128 0) (pos (128 * L))
unfolding round decimal
centre-worth = record { sign = false; size = 128 * L; value = (refl, refl); is = refl }

once : (z : ℤ) → pos 1 *ℤ z ≡ z
once = by-dif _ λ a b. simp differences (dif-eq _ _ _ _ (omega arith))

eight-wide : (u : ℕ) → u < 8 → length (get_or matrix u []) ≡ 8
unfolding matrix
eight-wide = each-8 (λ u. length (get_or matrix u []) ≡ 8) refl refl refl refl refl refl refl refl

-- a sample less 128
abbrev pub sample_of : List ℕ → ℕ → ℤ
sample_of block i = pos (get_or block i 0) -ℤ pos 128

-- the transform at n with the matrix, exactly, in units of 2^-108
unfoldable pub exact_of : List ℕ → ℕ → ℤ
exact_of block n = sum_to 64 (λ i. product n i *ℤ sample_of block i)

module _ (block : List ℕ) (bytes : (i : ℕ) → get_or block i 0 ≤ 255) where
  abbrev sample : ℕ → ℤ
  sample = sample_of block

  pub sample-size : (i : ℕ) → nat_abs (sample i) ≤ 128
  sample-size i = omega (arith, distance (get_or block i 0) 128, bytes i)

  in-units : (i : ℕ) → pos (get_or block i 0 * L) +ℤ neg_ℤ (pos (128 * L)) ≡ pos L *ℤ sample i
  in-units i = go (get_or block i 0) L
    where
      go : (a L : ℕ) → pos (a * L) +ℤ neg_ℤ (pos (128 * L)) ≡ pos L *ℤ (pos a -ℤ pos 128)
      go a L = (λ i. pos (mul_comm a L i) +ℤ neg_ℤ (pos (mul_comm 128 L i))) ∙ times-minus L (pos a) (pos 128)

  sample-most : (i : ℕ) → nat_abs (pos L *ℤ sample i) ≤ L * 128
  sample-most i = le_trans (le_of_eq (nat_abs-* (pos L) (sample i))) (mul-le-mul_left L (sample-size i))

  -- as a float
  read : (i : ℕ) → Rounded (level_shifted block i) (pos L *ℤ sample i) 1 1041
  unfolding level_shifted sub
  read i =
      subst (λ (t : ℤ). Rounded (level_shifted block i) t 1 1041) (in-units i)
      (add_step 1041 (lit≤ tt) (whole-worth (get_or block i 0) (le_trans (bytes i) (lit≤ tt))) (neg-worth centre-worth)
      (lt_of_le_of_lt (le_trans (le_of_eq (ap nat_abs (in-units i))) (sample-most i)) (lit< tt)))

  units_of : ℕ → ℤ
  units_of i = (read i).units

  read-near : (i : ℕ) → nat_abs (pos L *ℤ sample i -ℤ units_of i) ≤ E
  unfolding units_of
  read-near i = le_trans (le_of_eq (distance-sym (pos L *ℤ sample i) (read i).units)) (subst (λ (t : ℤ). nat_abs (t -ℤ pos L *ℤ sample i) ≤ E) (once (read i).units) (read i).near)

  -- ---- a row
  abbrev B1 : ℕ
  B1 = 129 * L

  units-size : (i : ℕ) → nat_abs (units_of i) ≤ B1
  units-size i = le_trans (size-near (units_of i) (pos L *ℤ sample i)) (le_trans (add-le-add (le_trans (le_of_eq (distance-sym (units_of i) (pos L *ℤ sample i))) (read-near i)) (sample-most i)) (lit≤ tt))

  row_units : ℕ → List ℤ
  row_units y = tab 8 (λ x. units_of (8 * y + x))

  row-pass : (y u : ℕ) → u < 8 → Form (row_units y) 1041 one (get_or matrix u []) (16 * one) (get_or (fdct8 (row block y)) u nan)
  unfolding row row_units units_of
  row-pass y =
      pass (row block y) (row_units y)
      (record { bound = B1; small = get_d-every (λ (z : ℤ). nat_abs z ≤ B1) 8 (λ x. units_of (8 * y + x)) (pos 0) zero-le (λ x h. units-size (8 * y + x)); least = lit≤ tt; room = lit≤ tt })
      (λ x h. subst (λ (f : Float). Worth f (get_or (row_units y) x (pos 0))) (sym (get_d-tab 8 (λ x. level_shifted block (8 * y + x)) nan x h)) (subst (Worth (level_shifted block (8 * y + x))) (sym (get_d-tab 8 (λ x. units_of (8 * y + x)) (pos 0) x h)) (read (8 * y + x)).worth))

  -- the exact one, in units of 2^-54
  row_sum : ℕ → ℕ → ℤ
  row_sum u y = sum_to 8 (λ x. sample (8 * y + x) *ℤ gain u x)

  abbrev R1 : ℕ
  R1 = 16 * one * E + E * (11 * one)

  row_near : (y u : ℕ) (h : u < 8) → nat_abs (pos one *ℤ (row-pass y u h).units -ℤ pos L *ℤ row_sum u y) ≤ R1
  unfolding row_units row_sum
  row_near y u h =
      let given : ℤ = sum_to 8 (λ x. units_of (8 * y + x) *ℤ gain u x) in
      through (pos one *ℤ (row-pass y u h).units) given (pos L *ℤ row_sum u y)
      (subst (λ (t : ℤ). nat_abs (pos one *ℤ (row-pass y u h).units -ℤ t) ≤ 16 * one * E) (row-sum matrix u 8 (λ x. units_of (8 * y + x)) (eight-wide u h)) (row-pass y u h).near)
      (le_trans (le_of_eq (distance-sym given (pos L *ℤ row_sum u y)))
      (sums-near 8 (pos L) (λ x. sample (8 * y + x)) (λ x. units_of (8 * y + x)) (gain u) E (11 * one) (λ x b. read-near (8 * y + x)) (gains-weight u h)))

  abbrev B2 : ℕ
  B2 = 1409 * L

  row-size : (y u : ℕ) (h : u < 8) → nat_abs (row-pass y u h).units ≤ B2
  unfolding row_sum
  row-size y u h =
      let w : ℤ = (row-pass y u h).units in
      let sum : nat_abs (row_sum u y) ≤ 128 * (11 * one) =
      le_trans (nat_abs-products 8 128 (λ x. sample (8 * y + x)) (gain u) (λ x b. sample-size (8 * y + x))) (mul-le-mul_left 128 (gains-weight u h)) in
      let size : one * nat_abs w ≤ R1 + L * (128 * (11 * one)) =
      le_trans (le_of_eq (sym (nat_abs-* (pos one) w))) (le_trans (size-near (pos one *ℤ w) (pos L *ℤ row_sum u y)) (add-le-add (row_near y u h) (le_trans (le_of_eq (nat_abs-* (pos L) (row_sum u y))) (mul-le-mul_left L sum)))) in
      le_of_mul-le-mul_left (le_trans size (lit≤ {m = R1 + L * (128 * (11 * one))} {n = one * B2} tt)) (lit< {m = 0} {n = one} tt)

  -- ---- the value n = 8v + u
  module _ (n : ℕ) (h : n < 64) where
    u<8 : n % 8 < 8
    u<8 = omega arith

    v<8 : n / 8 < 8
    v<8 = omega arith

    column_units : ℕ → ℤ
    column_units y = (row-pass y (n % 8) u<8).units

    value-pass : Form (tab 8 column_units) 1041 one (get_or matrix (n / 8) []) (16 * one) (fdct_value block n)
    unfolding fdct_value column column_units
    value-pass =
        pass (column block (n % 8)) (tab 8 column_units)
        (record { bound = B2; small = get_d-every (λ (z : ℤ). nat_abs z ≤ B2) 8 column_units (pos 0) zero-le (λ y b. row-size y (n % 8) u<8); least = lit≤ tt; room = lit≤ tt })
        (λ y b. subst (λ (f : Float). Worth f (get_or (tab 8 column_units) y (pos 0))) (sym (get_d-tab 8 (λ y. get_or (fdct8 (row block y)) (n % 8) nan) nan y b)) (subst (Worth (get_or (fdct8 (row block y)) (n % 8) nan)) (sym (get_d-tab 8 column_units (pos 0) y b)) (row-pass y (n % 8) u<8).worth))
        (n / 8) v<8

    abbrev exact : ℤ
    exact = exact_of block n

    pub value_units : ℤ
    value_units = value-pass.units

    pub value-worth : Worth (fdct_value block n) value_units
    unfolding value_units
    value-worth = value-pass.worth

    abbrev R2 : ℕ
    R2 = one * (16 * one * E) + R1 * (11 * one)

    -- the exact rows' exact columns
    nested : sum_to 8 (λ y. row_sum (n % 8) y *ℤ gain (n / 8) y) ≡ exact
    unfolding exact_of product_of row_sum
    nested =
        sum-ext 8 _ _ (λ y b.
        *ℤ_comm (row_sum (n % 8) y) (gain (n / 8) y) ∙ sum-scale (gain (n / 8) y) 8 (λ x. sample (8 * y + x) *ℤ gain (n % 8) x)
        ∙ sum-ext 8 _ _ (λ x l. turn (gain (n / 8) y) (sample (8 * y + x)) (gain (n % 8) x)))
        ∙ sum-block (λ x y i. (gain (n % 8) x *ℤ gain (n / 8) y) *ℤ sample i)
      where
        turn : (a b c : ℤ) → a *ℤ (b *ℤ c) ≡ (c *ℤ a) *ℤ b
        turn a b c = simp ring

    value-near : nat_abs (pos one *ℤ (pos one *ℤ value_units) -ℤ pos L *ℤ exact) ≤ R2
    unfolding column_units value_units
    value-near =
        let w : ℤ = value_units in
        let g : ℕ → ℤ = gain (n / 8) in
        let given : ℤ = sum_to 8 (λ y. column_units y *ℤ g y) in
        let out : sum_to 8 (λ y. (pos L *ℤ row_sum (n % 8) y) *ℤ g y) ≡ pos L *ℤ exact =
        sum-ext 8 _ _ (λ y b. *ℤ-assoc (pos L) (row_sum (n % 8) y) (g y)) ∙ sym (sum-scale (pos L) 8 (λ y. row_sum (n % 8) y *ℤ g y)) ∙ ap (λ (t : ℤ). pos L *ℤ t) nested in
        through (pos one *ℤ (pos one *ℤ w)) (pos one *ℤ given) (pos L *ℤ exact)
        (times-near one (pos one *ℤ w) given (subst (λ (t : ℤ). nat_abs (pos one *ℤ w -ℤ t) ≤ 16 * one * E) (row-sum matrix (n / 8) 8 column_units (eight-wide (n / 8) v<8)) value-pass.near))
        (subst (λ (t : ℤ). nat_abs (pos one *ℤ given -ℤ t) ≤ R1 * (11 * one)) out
        (sums-near 8 (pos one) column_units (λ y. pos L *ℤ row_sum (n % 8) y) g R1 (11 * one) (λ y b. row_near y (n % 8) u<8) (gains-weight (n / 8) v<8)))

    -- 313·2^-33 apart at most
    pub value-apart : Apart value_units L (exact_of block n) (one * one) 40064
    value-apart = record { within = le_trans (mul-le-mul_right (2 ^ 40) (le_trans (le_of_eq (ap nat_abs (turn one L value_units exact))) value-near)) (lit≤ {m = R2 * 2 ^ 40} {n = 40064 * (L * (one * one))} tt) }
      where
        turn : (o L : ℕ) (w e : ℤ) → w *ℤ pos (o * o) -ℤ e *ℤ pos L ≡ pos o *ℤ (pos o *ℤ w) -ℤ pos L *ℤ e
        turn o L w e = (λ i. *ℤ_comm w (pos o *ℤ pos o) i -ℤ *ℤ_comm e (pos L) i) ∙ ap (λ (t : ℤ). t -ℤ pos L *ℤ e) (*ℤ-assoc (pos o) (pos o) w)

    pub exact-size : nat_abs (exact_of block n) ≤ 13056 * (one * one)
    unfolding exact_of
    exact-size =
        le_trans (le_of_eq (ap nat_abs (sum-ext 64 _ _ (λ i b. *ℤ_comm (product n i) (sample i)))))
        (le_trans (nat_abs-products 64 128 sample (product n) (λ i b. sample-size i)) (le_trans (mul-le-mul_left 128 (products-weight n h)) (lit≤ {m = 128 * (102 * (one * one))} {n = 13056 * (one * one)} tt)))

    pub value-size : nat_abs value_units ≤ 13057 * L
    value-size =
        let w : ℤ = value_units in
        let size : one * (one * nat_abs w) ≤ R2 + L * (13056 * (one * one)) =
        le_trans (le_of_eq (sym (nat_abs-* (pos one) (pos one *ℤ w) ∙ ap (λ (k : ℕ). one * k) (nat_abs-* (pos one) w))))
        (le_trans (size-near (pos one *ℤ (pos one *ℤ w)) (pos L *ℤ exact)) (add-le-add value-near (le_trans (le_of_eq (nat_abs-* (pos L) exact)) (mul-le-mul_left L exact-size)))) in
        le_of_mul-le-mul_left (le_of_mul-le-mul_left (le_trans size (lit≤ {m = R2 + L * (13056 * (one * one))} {n = one * (one * (13057 * L))} tt)) (lit< {m = 0} {n = one} tt)) (lit< {m = 0} {n = one} tt)
