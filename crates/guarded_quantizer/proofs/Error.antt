-- The rounding error of binary64 in whole numbers. The unit is the format's smallest value, 2 ^ -1074.
-- Assumes nothing.
use Rattle.std.specs.Prelude.{◌≡◌, ℕ, suc, ◌+◌, ◌-◌, ◌*◌, ◌/◌, ◌%◌, ◌^◌, ◌<◌, ◌≤◌, Bool}
use mathlib.Core.Path.{sym, ap, subst, ◌∙◌}
use Prim.Native.Nat.{compare}
use native.Mathlib.Nat.{lt_of_lt_of_le, mul_comm, mul_assoc, mul_left_comm, suc-mul, mul-pos, mul-le-mul_left, mul-le-mul_right, lt_of_mul-lt-mul_right, mod-lt, div-add-mod', div-lt_iff_lt-mul, mul-div-mul_right}
use native.Mathlib.Omega.{arith}
use lib.Pow.{pow-add, pow_pos, pow_mono}
use lib.Ieee.{Float, binary64, size, units, round}
use lib.Ieee.Digits.{size-le}
use lib.Ieee.Fits.{nearest-le, round_is}
use lib.Ieee.Exact.{HasValue, units_val}
use lib.Ieee.Nearest.{closest, closest_same, nearest-ge}

-- the nearest multiple of u is within u of p (within u / 2, which nothing here needs)
closest-near : (p u : ℕ) → 0 < u → (closest p u * u ≤ p + u) × (p ≤ closest p u * u + u)
closest-near p u U =
    let a : closest p u * u ≤ suc (p / u) * u = mul-le-mul_right u (nearest-le (p / u) (compare (p % u * 2) u)) in
    let b : p / u * u ≤ closest p u * u = mul-le-mul_right u (nearest-ge (p / u) (compare (p % u * 2) u)) in
    go (closest p u * u) (p / u * u) (suc (p / u) * u) (p % u) a b (suc-mul (p / u) u) (div-add-mod' p u) (mod-lt p U)
  where
    go : (cu qu su r : ℕ) → cu ≤ su → qu ≤ cu → su ≡ qu + u → qu + r ≡ p → r < u → (cu ≤ p + u) × (p ≤ cu + u)
    go cu qu su r a b c d e = omega arith

-- p / D units, fewer than 2 ^ (53 + K), round to a whole number v of units that is within 2 ^ K of p / D
pub round-near : (s : Bool) (p D K : ℕ) → 0 < D → p < 2 ^ (53 + K) * D → K ≤ 2044
    → (v : ℕ) × HasValue (round binary64 s p (D * 2 ^ 1074)) s v (2 ^ 1074) × (v * D ≤ p + D * 2 ^ K) × (p ≤ v * D + D * 2 ^ K)
round-near s p D K C h k =
    let L = 2 ^ 1074 in
    let n = p * L in
    let den = D * L in
    let e : n / den ≡ p / D = mul-div-mul_right p D (pow_pos 1074) in
    let j = size (n / den) - 53 in
    let j-le : j ≤ K = spare (size (n / den)) K (size-le (n / den) (53 + K) (subst (λ (z : ℕ). z < 2 ^ (53 + K)) (sym e) ((div-lt_iff_lt-mul C).1 h))) in
    let u = D * 2 ^ j in
    let U : 0 < u = mul-pos C (pow_pos j) in
    let c = closest p u in
    let same : closest n (den * 2 ^ j) ≡ c = closest_same n (den * 2 ^ j) p u (mul-pos (mul-pos C (pow_pos 1074)) (pow_pos j)) U (mul_assoc p L u ∙ ap (λ (z : ℕ). p * z) (mul_left_comm L D (2 ^ j) ∙ sym (mul_assoc D L (2 ^ j)))) in
    let v = c * 2 ^ j in
    let v_d : v * D ≡ c * u = mul_assoc c (2 ^ j) D ∙ ap (λ (z : ℕ). c * z) (mul_comm (2 ^ j) D) in
    let u-le : u ≤ D * 2 ^ K = mul-le-mul_left D (pow_mono j-le) in
    let w = closest-near p u U in
    let near : (v * D ≤ p + D * 2 ^ K) × (p ≤ v * D + D * 2 ^ K) = within (v * D) (c * u) u (D * 2 ^ K) v_d u-le w.0 w.1 in
    let small : v < 2 ^ 2098 = lt_of_lt_of_le (lt_of_mul-lt-mul_right D (under (v * D) near.0)) (pow_mono (room K k)) in
    (v, subst (λ (x : Float). HasValue x s v L) (sym (round_is binary64 s p den ∙ ap (λ (z : ℕ). units binary64 s z j) same)) (units_val binary64 s c j small), near.0, near.1)
  where
    spare : (z K : ℕ) → z ≤ 53 + K → z - 53 ≤ K
    spare z K h = omega arith

    within : (vd cu u E : ℕ) → vd ≡ cu → u ≤ E → cu ≤ p + u → p ≤ cu + u → (vd ≤ p + E) × (p ≤ vd + E)
    within vd cu u E a b c d = omega arith

    room : (K : ℕ) → K ≤ 2044 → 54 + K ≤ 2098
    room K k = omega arith

    under : (vd : ℕ) → vd ≤ p + D * 2 ^ K → vd < 2 ^ (54 + K) * D
    under vd a = rw (pow-add 2 54 K) (go (2 ^ K) (rw (pow-add 2 53 K) at h) a)
      where
        go : (z : ℕ) → p < 2 ^ 53 * z * D → vd ≤ p + D * z → vd < 2 ^ 54 * z * D
        go z b c = omega arith
