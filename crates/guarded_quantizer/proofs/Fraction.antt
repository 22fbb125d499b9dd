-- `around_half` and `rounded` see only the value of their fraction: equal fractions, a / b and c / d, give the same.
-- Assumes nothing.
use Rattle.std.specs.Prelude.{◌≡◌, ℕ, ◌+◌, ◌-◌, ◌*◌, ◌/◌, ◌%◌, ◌^◌, ◌<◌, ◌≤◌, Bool, cond, ◌&&◌, ltb, leb}
use mathlib.Core.Path.{sym, ◌∙◌}
use native.Mathlib.Decide.{dec_le, dec_lt}
use native.Mathlib.Nat.{mul-le-mul_right, mul-lt-mul_of_pos_right, div-add-mod'}
use native.Mathlib.Omega.{arith}
use borrow.Author.Tests.{lt-ltb, le-ltb, le-leb, lt-leb}
use lib.Ieee.Nearest.{div_same}
use Rattle.quantize.specs.Quantize.{rounded}
use Rattle.guarded_quantizer.specs.Binary64.{around_half}

-- ---- a test of two numbers that sees only their ratio
abbrev pub Scales : (ℕ → ℕ → Bool) → Type 0
Scales test = (u v k : ℕ) → 0 < k → test (u * k) (v * k) ≡ test u v

pub less-scales : Scales ltb
less-scales u v k p = go (dec_lt u v)
  where
    go : Dec (u < v) → ltb (u * k) (v * k) ≡ ltb u v
    go (yes l) = lt-ltb (u * k) (v * k) (mul-lt-mul_of_pos_right l p) ∙ sym (lt-ltb u v l)
    go (no l) = let m : v ≤ u = omega arith in le-ltb (u * k) (v * k) (mul-le-mul_right k m) ∙ sym (le-ltb u v m)

at-most-scales : Scales leb
at-most-scales u v k p = go (dec_le u v)
  where
    go : Dec (u ≤ v) → leb (u * k) (v * k) ≡ leb u v
    go (yes l) = le-leb (u * k) (v * k) (mul-le-mul_right k l) ∙ sym (le-leb u v l)
    go (no l) = let m : v < u = omega arith in lt-leb (u * k) (v * k) (mul-lt-mul_of_pos_right m p) ∙ sym (lt-leb u v m)

module _ (a b c d : ℕ) (B : 0 < b) (D : 0 < d) (same : a * d ≡ c * b) where
  remainders : a % b * d ≡ c % d * b
  remainders =
      let w : ℕ = c / d in
      let x : w * b + a % b ≡ a = rw (← div_same a b c d B D same) (div-add-mod' a b) in
      let y : w * d + c % d ≡ c = div-add-mod' c d in
      let z : (w * b + a % b) * d ≡ (w * d + c % d) * b = rw (x, y) same in
      omega arith

  -- u / b is u' / d, and v / b is v' / d
  tests : {test : ℕ → ℕ → Bool} → Scales test → (u v u' v' : ℕ) → u * d ≡ u' * b → v * d ≡ v' * b → test u v ≡ test u' v'
  tests {test} scales u v u' v' e f = sym (scales u v d D) ∙ (λ i. test (e i) (f i)) ∙ scales u' v' b B

  pub around-same : around_half (a % b) b ≡ around_half (c % d) d
  unfolding around_half
  around-same =
      let r : a % b * d ≡ c % d * b = remainders in
      let low = tests less-scales (b * (2 ^ 18 - 1)) (a % b * 2 ^ 19) (d * (2 ^ 18 - 1)) (c % d * 2 ^ 19) (omega arith) (omega arith) in
      let high = tests less-scales (a % b * 2 ^ 19) (b * (2 ^ 18 + 1)) (c % d * 2 ^ 19) (d * (2 ^ 18 + 1)) (omega arith) (omega arith) in
      λ i. low i && high i

  pub rounded-same : rounded a b ≡ rounded c d
  unfolding rounded
  rounded-same =
      let r : a % b * d ≡ c % d * b = remainders in
      let whole : a / b ≡ c / d = div_same a b c d B D same in
      let up = tests at-most-scales b (2 * (a % b)) d (2 * (c % d)) (omega arith) (omega arith) in
      λ i. whole i + cond (up i) 1 0
