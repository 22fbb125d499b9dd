-- A test of several entries by one `|`: the bits of all together are 0 exactly when each entry is zero.
-- Assumes nothing.
use mathlib.Core.Path.{◌≡◌, refl, sym, ◌∙◌}
use mathlib.Core.Bool.{Bool, true, false, ◌&&◌}
use mathlib.Core.List.{List, [], ◌∷◌}
use Prim.Native.Nat.{ℕ, zero, suc, ◌*◌, ◌^◌, ◌≤◌, ◌<◌}
use native.Mathlib.Omega.{arith}
use borrow.Author.Tests.{ne_eqb}
use lib.Bits.{bit_or, or_add_and, and_le_l, and_le_r, or_zero_l}
use lib.Dec.{eqb}
use lib.ListN.{get_or}
use lib.IntN.{ℤ, pos, negsuc, nat_abs}
use lib.Signed.{mag}
use mir.Syntax.{Width}
use mir.Val.{bits, hbits, of_z}
use mir.ValLaws.{pow-bits}
use Rattle.integers.specs.Linear.{zero_at}

-- the bits of the entries ks of xs, together by `|`
abbrev pub bits_of : Width → List ℤ → List ℕ → ℕ
bits_of w xs [] = 0
bits_of w xs (k ∷ []) = of_z w (get_or xs k (pos 0))
bits_of w xs (k ∷ j ∷ ks) = bit_or (of_z w (get_or xs k (pos 0))) (bits_of w xs (j ∷ ks))

pub or-eqb : (a b : ℕ) → eqb (bit_or a b) 0 ≡ eqb a 0 && eqb b 0
or-eqb zero b = rw (or_zero_l b)
or-eqb (suc a) b =
    let below = and_le_r (suc a) b in
    let sum = or_add_and (suc a) b in
    rw (ne_eqb (bit_or (suc a) b) 0 (λ e. omega arith), ne_eqb (suc a) 0 (λ e. omega arith))

-- neither is more than both together
pub or_most : (a b n : ℕ) → bit_or a b ≤ n → (a ≤ n) × (b ≤ n)
or_most a b n h =
    let sum = or_add_and a b in
    (omega (arith, and_le_r a b), omega (arith, and_le_l a b))

module _ (w : Width) where
  pub zero_bits : (z : ℤ) → mag z < 2 ^ hbits w → eqb (of_z w z) 0 ≡ eqb (nat_abs z) 0
  zero_bits (pos n) h = refl
  zero_bits (negsuc n) h =
      let p : 2 ^ bits w ≡ 2 ^ hbits w * 2 = pow-bits w in
      ne_eqb (of_z w (negsuc n)) 0 (λ e. omega arith) ∙ sym (ne_eqb (suc n) 0 (λ e. omega arith))

  and-true : (t : Bool) → t ≡ t && true
  and-true true = refl
  and-true false = refl

  -- the test of entries that fit the width
  pub zero_test : (xs : List ℤ) → ((k : ℕ) → mag (get_or xs k (pos 0)) < 2 ^ hbits w) → (ks : List ℕ) → eqb (bits_of w xs ks) 0 ≡ zero_at ks xs
  unfolding zero_at
  zero_test xs f [] = refl
  zero_test xs f (k ∷ []) = zero_bits (get_or xs k (pos 0)) (f k) ∙ and-true _
  zero_test xs f (k ∷ j ∷ ks) =
      or-eqb (of_z w (get_or xs k (pos 0))) (bits_of w xs (j ∷ ks)) ∙ (λ i. zero_bits (get_or xs k (pos 0)) (f k) i && zero_test xs f (j ∷ ks) i)
