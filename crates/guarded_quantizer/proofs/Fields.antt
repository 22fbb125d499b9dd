-- The value of an f64 by the fields of its bits: the sign s, the exponent field x and the lower 52 bits t. Below the field 2047 it is
-- `weight` x t / 2 ^ 1074 in absolute value, and at 2047 an infinity, where it is no NaN.
-- Assumes nothing.
use Rattle.std.specs.Prelude.{◌≡◌, ℕ, zero, suc, ◌+◌, ◌-◌, ◌*◌, ◌/◌, ◌%◌, ◌^◌, ◌<◌, ◌≤◌, Bool, true, false, cond, not, T, eqb, leb}
use mathlib.Core.Path.{refl, sym, ap, ◌∙◌, subst}
use mathlib.Core.Bool.{true≢false}
use native.Mathlib.Nat.{add-suc, suc-add, mul-one, mul_assoc, mod-lt, lt_of_lt_of_le}
use native.Mathlib.Omega.{arith}
use borrow.Author.Tests.{ne_eqb}
use lib.Pow.{pow-add, pow_pos, pow_mono, shl_lt}
use lib.Ieee.{Float, nan, inf, fin, binary64, fits, is_nan, ne, of_fields, of_bits, to_bits}
use lib.Ieee.Bits.{of_bits-to_bits}
use lib.Ieee.Compare.{differs_from_itself, nan_differs}
use lib.Ieee.Exact.{HasValue, odd_sign}

-- ---- the test for a NaN
pub no_nan : (q : Float) → ne q q ≡ false → T (not (is_nan q))
unfolding is_nan
no_nan nan h = absurd (true≢false (sym nan_differs ∙ h))
no_nan (inf s) h = tt
no_nan (fin s m e) h = tt

pub is-nan : (q : Float) → ne q q ≡ true → q ≡ nan
is-nan q h = differs_from_itself q (subst T (sym h) tt)

-- ---- the fields
abbrev pub weight : ℕ → ℕ → ℕ
weight zero t = t
weight (suc j) t = (2 ^ 52 + t) * 2 ^ j

finite-fields : (s : Bool) (x t : ℕ) → x < 2047 → HasValue (of_fields binary64 s x t) s (weight x t) (2 ^ 1074)
unfolding of_fields
finite-fields s zero t h = rw mul-one at (odd_sign 53 s t 0 1074)
finite-fields s (suc j) t h = rw (ne_eqb (suc j) 2047 (λ e. omega arith)) (odd_sign 53 s (2 ^ 52 + t) j 1074)

infinite-fields : (s : Bool) (t : ℕ) → T (not (is_nan (of_fields binary64 s 2047 t))) → of_fields binary64 s 2047 t ≡ inf s
unfolding of_fields is_nan
infinite-fields s t = go (eqb t 0)
  where
    go : (z : Bool) → T (not (is_nan (cond z (inf s) nan))) → cond z (inf s) nan ≡ inf s
    go true h = refl
    go false h = absurd h

small-fields : (x t : ℕ) → t < 2 ^ 52 → weight x t < 2 ^ (52 + x)
small-fields zero t h = h
small-fields (suc j) t h = rw (add-suc 52 j, ← suc-add 52 j) (shl_lt 53 j (omega arith))

normal-fields : (x t : ℕ) → 1 ≤ x → weight x t ≡ (2 ^ 52 + t) * 2 ^ (x - 1)
normal-fields zero t h = absurd (omega arith)
normal-fields (suc j) t h = ap (λ (k : ℕ). (2 ^ 52 + t) * 2 ^ k) (omega arith)

-- shifts by as many places
pub shifts : (d i l j k : ℕ) → i + l ≡ j + k → d * 2 ^ i * 2 ^ l ≡ d * 2 ^ j * 2 ^ k
shifts d i l j k e = mul_assoc d (2 ^ i) (2 ^ l) ∙ ap (λ (p : ℕ). d * p) (sym (pow-add 2 i l) ∙ ap (λ (n : ℕ). 2 ^ n) e ∙ pow-add 2 j k) ∙ sym (mul_assoc d (2 ^ j) (2 ^ k))

-- ---- of q
abbrev pub negative : Float → Bool
negative q = leb (2 ^ 63) (to_bits binary64 q)

abbrev pub exponent : Float → ℕ
exponent q = to_bits binary64 q % 2 ^ 63 / 2 ^ 52

abbrev pub digits : Float → ℕ
digits q = to_bits binary64 q % 2 ^ 52

module _ (q : Float) (F : T (fits binary64 q)) where
  fields : of_fields binary64 (negative q) (exponent q) (digits q) ≡ q
  unfolding of_bits
  fields = of_bits-to_bits binary64 q F

  pub finite : exponent q < 2047 → HasValue q (negative q) (weight (exponent q) (digits q)) (2 ^ 1074)
  finite h = subst (λ (v : Float). HasValue v (negative q) (weight (exponent q) (digits q)) (2 ^ 1074)) fields (finite-fields (negative q) (exponent q) (digits q) h)

  pub normal : 1 ≤ exponent q → exponent q < 2047 → HasValue q (negative q) ((2 ^ 52 + digits q) * 2 ^ (exponent q - 1)) (2 ^ 1074)
  normal l h = subst (λ (a : ℕ). HasValue q (negative q) a (2 ^ 1074)) (normal-fields (exponent q) (digits q) l) (finite h)

  pub infinite : ne q q ≡ false → 2047 ≤ exponent q → q ≡ inf (negative q)
  infinite n h =
      let top : exponent q ≡ 2047 = omega arith in
      let e : q ≡ of_fields binary64 (negative q) 2047 (digits q) = sym fields ∙ ap (λ (k : ℕ). of_fields binary64 (negative q) k (digits q)) top in
      e ∙ infinite-fields (negative q) (digits q) (subst (λ (v : Float). T (not (is_nan v))) e (no_nan q n))

pub small : (q : Float) (l : ℕ) → exponent q ≤ l → weight (exponent q) (digits q) < 2 ^ (52 + l)
small q l h = lt_of_lt_of_le (small-fields (exponent q) (digits q) (mod-lt _ (pow_pos 52))) (pow_mono (omega arith))
