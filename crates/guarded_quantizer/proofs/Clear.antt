-- A number in fixed point with 16 binary places after the point, at most one unit off: how it rounds, where it is clear of one half.
-- Assumes nothing.
use Rattle.std.specs.Prelude.{◌≡◌, ℕ, zero, suc, ◌+◌, ◌-◌, ◌*◌, ◌/◌, ◌%◌, ◌^◌, ◌<◌, ◌≤◌, false, ltb, ◌⊎◌}
use mathlib.Core.Path.{refl, sym, ap, ◌∙◌}
use mathlib.Core.Logic.{inl, inr}
use mathlib.Core.Bool.{and-false}
use lib.Arith.{digits_mod}
use native.Mathlib.Decide.{dec_le}
use native.Mathlib.Nat.{mul_assoc, add-mul, mul-le-mul_right, le_of_mul-le-mul_right, suc-mul, div-add-mod', div-eq_of_lt-le}
use native.Mathlib.Omega.{arith}
use borrow.Author.Tests.{le-ltb}
use Rattle.quantize.specs.Quantize.{rounded}
use Rattle.quantize.proofs.Halves.{rounded-half}
use Rattle.guarded_quantizer.specs.Binary64.{around_half}

-- ---- a fraction that is clear of one half: a, of which 65536 * g is one, with half of that added, lies g at least above a whole number and
-- g at least below the next
module _ (g : ℕ) (G : 0 < g) (a n y : ℕ) (e : a + 32768 * g ≡ n * (65536 * g) + y) (above : g ≤ y) (under : y + g ≤ 65536 * g) where
  one : 2 * (32768 * g) ≡ 65536 * g
  one = omega arith

  clear-rounded : rounded a (65536 * g) ≡ n
  clear-rounded =
      let next : (n + 1) * (65536 * g) ≡ n * (65536 * g) + 65536 * g = omega (arith, add-mul n 1 (65536 * g)) in
      ap (rounded a) (sym one) ∙ sym (rounded-half a (32768 * g) (omega arith)) ∙ ap (λ (m : ℕ). (a + 32768 * g) / m) one ∙ div-eq_of_lt-le (65536 * g) (omega arith) (omega arith)

  outside : (r : ℕ) → a % (65536 * g) ≡ r → (r + g ≤ 32768 * g) ⊎ (32768 * g + g ≤ r) → around_half (a % (65536 * g)) (65536 * g) ≡ false
  unfolding around_half
  outside r q h = rw q (elim h [
    | inl l ↦ rw (le-ltb (65536 * g * (2 ^ 18 - 1)) (r * 2 ^ 19) (omega arith)) refl
    | inr l ↦ rw (le-ltb (r * 2 ^ 19) (65536 * g * (2 ^ 18 + 1)) (omega arith)) (and-false (ltb (65536 * g * (2 ^ 18 - 1)) (r * 2 ^ 19)))
  ])

  clear-of-half : around_half (a % (65536 * g)) (65536 * g) ≡ false
  clear-of-half = go (dec_le (32768 * g) y)
    where
      go : Dec (32768 * g ≤ y) → around_half (a % (65536 * g)) (65536 * g) ≡ false
      go (yes l) =
          let s : a ≡ n * (65536 * g) + (y - 32768 * g) = omega arith in
          outside (y - 32768 * g) (ap (λ (b : ℕ). b % (65536 * g)) s ∙ digits_mod n (omega arith)) (inl (omega arith))
      go (no l) = split n e
        where
          split : (k : ℕ) → a + 32768 * g ≡ k * (65536 * g) + y → around_half (a % (65536 * g)) (65536 * g) ≡ false
          split zero e = absurd (omega arith)
          split (suc k) e =
              let s : a ≡ k * (65536 * g) + (y + 32768 * g) = omega (arith, suc-mul k (65536 * g)) in
              outside (y + 32768 * g) (ap (λ (b : ℕ). b % (65536 * g)) s ∙ digits_mod k (omega arith)) (inr (omega arith))

-- ---- from the digits t of the sum, in units of g: t is within one of ±a / g + 2 ^ 31 + 2 ^ 15
module _ (g : ℕ) (G : 0 < g) (a t : ℕ) (above : 2 ≤ t % 65536) (under : t % 65536 ≤ 65534) where
  abbrev w : ℕ
  w = t / 65536

  abbrev r : ℕ
  r = t % 65536

  parts : t * g ≡ w * (65536 * g) + r * g
  parts = ap (λ (z : ℕ). z * g) (sym (div-add-mod' t 65536)) ∙ add-mul (w * 65536) r g ∙ ap (λ (z : ℕ). z + r * g) (mul_assoc w 65536 g)

  abbrev Settled : ℕ → Type 0
  Settled n = (rounded a (65536 * g) ≡ n) × (around_half (a % (65536 * g)) (65536 * g) ≡ false)

  settled_at : (n y : ℕ) → a + 32768 * g ≡ n * (65536 * g) + y → g ≤ y → y + g ≤ 65536 * g → Settled n
  settled_at n y e h k = (clear-rounded g G a n y e h k, clear-of-half g G a n y e h k)

  pub settled_up : (2 ^ 31 + 2 ^ 15) * g + a ≤ t * g + g → t * g ≤ (2 ^ 31 + 2 ^ 15) * g + a + g → (n : ℕ) × (w ≡ n + 32768) × Settled n
  settled_up h k =
      let least : 2 ^ 31 ≤ t = le_of_mul-le-mul_right (omega arith) G in
      let n : ℕ = w - 32768 in
      let e : w ≡ n + 32768 = omega arith in
      let whole : w * (65536 * g) ≡ n * (65536 * g) + 32768 * (65536 * g) = ap (λ (z : ℕ). z * (65536 * g)) e ∙ add-mul n 32768 (65536 * g) in
      let y : ℕ = a + 32768 * g - n * (65536 * g) in
      let low : 2 * g ≤ r * g = mul-le-mul_right g above in
      let high : r * g ≤ 65534 * g = mul-le-mul_right g under in
      (n, e, settled_at n y (omega (arith, parts)) (omega (arith, parts)) (omega (arith, parts)))

  pub settled-down : (2 ^ 31 + 2 ^ 15) * g ≤ t * g + a + g → t * g + a ≤ (2 ^ 31 + 2 ^ 15) * g + g → (n : ℕ) × (n + w ≡ 32768) × Settled n
  settled-down h k =
      let most : t ≤ 2 ^ 31 + 2 ^ 15 + 1 = le_of_mul-le-mul_right (omega arith) G in
      let n : ℕ = 32768 - w in
      let e : n + w ≡ 32768 = omega arith in
      let whole : n * (65536 * g) + w * (65536 * g) ≡ 32768 * (65536 * g) = sym (add-mul n w (65536 * g)) ∙ ap (λ (z : ℕ). z * (65536 * g)) e in
      let y : ℕ = a + 32768 * g - n * (65536 * g) in
      let low : 2 * g ≤ r * g = mul-le-mul_right g above in
      let high : r * g ≤ 65534 * g = mul-le-mul_right g under in
      (n, e, settled_at n y (omega (arith, parts)) (omega (arith, parts)) (omega (arith, parts)))
