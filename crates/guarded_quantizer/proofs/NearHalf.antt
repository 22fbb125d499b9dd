-- `near_half` by the exponent field of q. Below 1021 q is less than 1/4, above 1075 it is whole, and between its fraction is read off its
-- digits, shifted.
-- Assumes nothing.
use Rattle.std.specs.Prelude.{◌≡◌, ℕ, ◌+◌, ◌-◌, ◌*◌, ◌%◌, ◌^◌, ◌<◌, ◌≤◌, Bool, true, false, T, ltb}
use mathlib.Core.Path.{sym, ap, ◌∙◌}
use native.Mathlib.Decide.{dec_lt}
use native.Mathlib.Nat.{mod-le, mod-one, mul-lt-mul_of_pos_right}
use native.Mathlib.Omega.{arith}
use borrow.Author.Tests.{lt-ltb, le-ltb}
use lib.Pow.{pow_pos, mod-mod-pow}
use lib.Ieee.{Float, nan, inf, fin, up, down, binary64, fits, ne}
use lib.Ieee.Fits.{down_pos}
use lib.Ieee.Exact.{HasValue}
use Rattle.guarded_quantizer.specs.Binary64.{around_half, near_half}
use Rattle.guarded_quantizer.proofs.Fraction.{less-scales, around-same}
use Rattle.guarded_quantizer.proofs.Fields.{is-nan, shifts, weight, negative, exponent, digits, finite, normal, infinite, small}

-- at any fraction that v equals
pub near-value : (v : Float) (s : Bool) (a c : ℕ) → 0 < c → HasValue v s a c → near_half v ≡ around_half (a % c) c
unfolding near_half
near-value nan s a c C h = absurd h
near-value (inf t) s a c C h = absurd h
near-value (fin t m e) s a c C h = around-same (m * up e) (down e) a c (down_pos e) C h.1

-- ---- `around_half`
below-quarter : (a c : ℕ) → a * 4 < c → around_half (a % c) c ≡ false
unfolding around_half
below-quarter a c h = rw (le-ltb (c * (2 ^ 18 - 1)) (a % c * 2 ^ 19) (omega (arith, mod-le a c)))

at-whole : (n : ℕ) → around_half (n % 1) 1 ≡ false
unfolding around_half
at-whole n = rw mod-one

under-edge : (r : ℕ) → r ≤ 2 ^ 53 - 2 ^ 35 → around_half r (2 ^ 54) ≡ false
unfolding around_half
under-edge r h = rw (le-ltb (2 ^ 54 * (2 ^ 18 - 1)) (r * 2 ^ 19) (omega arith))

over-edge : (r : ℕ) → 2 ^ 53 - 2 ^ 35 < r → around_half r (2 ^ 54) ≡ ltb r (2 ^ 53 + 2 ^ 35)
unfolding around_half
over-edge r h = rw (lt-ltb (2 ^ 54 * (2 ^ 18 - 1)) (r * 2 ^ 19) (omega arith)) (less-scales r (2 ^ 53 + 2 ^ 35) (2 ^ 19) (pow_pos 19))

-- ---- as the code has them
pub nan-not-near : (q : Float) → ne q q ≡ true → false ≡ near_half q
unfolding near_half
nan-not-near q h = rw (is-nan q h)

module _ (q : Float) (F : T (fits binary64 q)) where
  abbrev x : ℕ
  x = exponent q

  abbrev d : ℕ
  d = 2 ^ 52 + digits q

  abbrev size : ℕ
  size = d * 2 ^ (x - 1)

  pub small-not-near : x < 1021 → false ≡ near_half q
  small-not-near h =
      let a : ℕ = weight x (digits q) in
      sym (near-value q (negative q) a (2 ^ 1074) (pow_pos 1074) (finite q F (omega arith)) ∙ below-quarter a (2 ^ 1074) (mul-lt-mul_of_pos_right (small q 1020 (omega arith)) (pow_pos 2)))

  pub whole-not-near : ne q q ≡ false → 1075 < x → false ≡ near_half q
  unfolding near_half
  whole-not-near n h = go (dec_lt x 2047)
    where
      go : Dec (x < 2047) → false ≡ near_half q
      go (yes l) =
          let n : ℕ = d * 2 ^ (x - 1075) in
          let e : size * 1 ≡ n * 2 ^ 1074 = shifts d (x - 1) 0 (x - 1075) 1074 (omega arith) in
          sym (near-value q (negative q) size (2 ^ 1074) (pow_pos 1074) (normal q F (omega arith) l) ∙ around-same size (2 ^ 1074) n 1 (pow_pos 1074) (pow_pos 0) e ∙ at-whole n)
      go (no l) = ap near_half (sym (infinite q F n (omega arith)))

  -- the fraction of q times 2 ^ 54
  abbrev part : ℕ
  part = d * 2 ^ (x - 1021) % 2 ^ 64 % 2 ^ 54

  module _ (h : 1021 ≤ x) (k : x ≤ 1075) where
    by_part : near_half q ≡ around_half part (2 ^ 54)
    by_part =
        let n : ℕ = d * 2 ^ (x - 1021) in
        let e : size * 2 ^ 54 ≡ n * 2 ^ 1074 = shifts d (x - 1) 54 (x - 1021) 1074 (omega arith) in
        near-value q (negative q) size (2 ^ 1074) (pow_pos 1074) (normal q F (omega arith) (omega arith))
        ∙ around-same size (2 ^ 1074) n (2 ^ 54) (pow_pos 1074) (pow_pos 54) e
        ∙ ap (λ (r : ℕ). around_half r (2 ^ 54)) (sym (mod-mod-pow n 10 54))

    pub under-part : part ≤ 2 ^ 53 - 2 ^ 35 → false ≡ near_half q
    under-part l = sym (by_part ∙ under-edge part l)

    pub over-part : 2 ^ 53 - 2 ^ 35 < part → ltb part (2 ^ 53 + 2 ^ 35) ≡ near_half q
    over-part l = sym (by_part ∙ over-edge part l)
