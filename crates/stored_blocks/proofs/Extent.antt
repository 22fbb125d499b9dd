-- Low and high are the least and the greatest S over all 8-bit blocks; what they are in numbers.
-- Assumes nothing.
use mathlib.Core.Path.{◌≡◌, refl, sym, ap, subst, ◌∙◌}
use mathlib.Core.Bool.{Bool, true, false, cond}
use Prim.Native.Nat.{ℕ, zero, suc, ◌+◌, ◌*◌, ◌/◌, ◌%◌, ◌≤◌, ◌<◌, zero-le}
use native.Mathlib.Nat.{mul-le-mul_right}
use native.Mathlib.Omega.{arith}
use lib.ListN.{get_or}
use lib.IntN.{ℤ, pos, negsuc, neg_ℤ, nat_abs, ◌-ℤ◌, ◌*ℤ◌}
use lib.Signed.{non_neg, ◌≤ℤ◌}
use Rattle.integers.proofs.Difference.{dif-eq, differences}
use Rattle.integers.proofs.Order.{dif-le}
use Rattle.integers.proofs.Ring.{nat_abs-neg}
use Rattle.lists.proofs.Tab.{get_d-tab}
use Rattle.basis.specs.Basis.{basis}
use Rattle.forward.specs.Sum.{sum_to, total}
use Rattle.forward.specs.Forward.{centred, scaled_sum}
use Rattle.forward.specs.Canonical.{Bytes}
use Rattle.forward.proofs.Sum.{sum-ext, sum-le, sum-pos}
use Rattle.forward.proofs.Canonical.{up_to}
use Rattle.stored_blocks.specs.Screen.{Least, Greatest, by_sign, low, high}

-- a sample less the centre, times a number of the basis
module _ (c s t : ℕ) (h : s ≤ t) (k : ℕ) where
  rising : ((pos s -ℤ pos c) *ℤ pos k) ≤ℤ ((pos t -ℤ pos c) *ℤ pos k)
  rising = let l = mul-le-mul_right k h in simp differences (dif-le _ _ _ _ (omega arith))

  falling : ((pos t -ℤ pos c) *ℤ negsuc k) ≤ℤ ((pos s -ℤ pos c) *ℤ negsuc k)
  falling = let l = mul-le-mul_right (suc k) h in simp differences (dif-le _ _ _ _ (omega arith))

abbrev term : ℕ → ℤ → ℤ
term s b = (pos s -ℤ pos 128) *ℤ b

least : (s : ℕ) → s ≤ 255 → (b : ℤ) → term (cond (non_neg b) 0 255) b ≤ℤ term s b
least s h (pos k) = rising 128 0 s zero-le k
least s h (negsuc k) = falling 128 s 255 h k

greatest : (s : ℕ) → s ≤ 255 → (b : ℤ) → term s b ≤ℤ term (cond (non_neg b) 255 0) b
greatest s h (pos k) = rising 128 s 255 h k
greatest s h (negsuc k) = falling 128 0 s zero-le k

-- b times p where it is not negative, its absolute value times m where it is
unfoldable pub weighed : ℕ → ℕ → ℤ → ℕ
weighed p m (pos k) = p * k
weighed p m (negsuc k) = m * suc k

-- the sum of these over the 64 places
unfoldable pub extent : ℕ → ℕ → ℕ → ℕ
extent p m n = total 64 (λ i. weighed p m (basis n (i % 8) (i / 8)))

module _ (n : ℕ) where
  abbrev at : ℕ → ℤ
  at i = basis n (i % 8) (i / 8)

  module _ (s t : ℕ) where
    sign-bytes : s ≤ 255 → t ≤ 255 → Bytes (by_sign n s t)
    unfolding by_sign
    sign-bytes hs ht = up_to 255 _ (λ i h. either (non_neg (at i)))
      where
        either : (u : Bool) → cond u s t ≤ 255
        either true = hs
        either false = ht

    sign-sample : (i : ℕ) → i < 64 → get_or (by_sign n s t) (8 * (i / 8) + i % 8) 0 ≡ cond (non_neg (at i)) s t
    unfolding by_sign
    sign-sample i h =
        let e : 8 * (i / 8) + i % 8 ≡ i = omega arith in
        ap (λ (k : ℕ). get_or (by_sign n s t) k 0) e ∙ get_d-tab 64 (λ k. cond (non_neg (at k)) s t) 0 i h

    sign-sum : (g : ℤ → ℤ) → ((b : ℤ) → term (cond (non_neg b) s t) b ≡ g b) → scaled_sum 128 (by_sign n s t) n ≡ sum_to 64 (λ i. g (at i))
    unfolding scaled_sum centred
    sign-sum g e = sum-ext 64 _ _ (λ i h. ap (λ (k : ℕ). term k (at i)) (sign-sample i h) ∙ e (at i))

  -- ---- "the least and greatest S over all 8-bit blocks"

  pub low-least : Least n (low n)
  unfolding low scaled_sum centred
  low-least = (
    record { block = by_sign n 0 255; bytes = sign-bytes 0 255 (omega arith) (omega arith); is = refl },
    λ S s. subst (λ (z : ℤ). low n ≤ℤ z) s.is
        (sum-le 64 _ _ (λ i h. subst (λ (k : ℕ). term k (at i) ≤ℤ term (get_or s.block (8 * (i / 8) + i % 8) 0) (at i)) (sym (sign-sample 0 255 i h)) (least _ (s.bytes.most _) (at i)))),
  )

  pub high-greatest : Greatest n (high n)
  unfolding high scaled_sum centred
  high-greatest = (
    record { block = by_sign n 255 0; bytes = sign-bytes 255 0 (omega arith) (omega arith); is = refl },
    λ S s. subst (λ (z : ℤ). z ≤ℤ high n) s.is
        (sum-le 64 _ _ (λ i h. subst (λ (k : ℕ). term (get_or s.block (8 * (i / 8) + i % 8) 0) (at i) ≤ℤ term k (at i)) (sym (sign-sample 255 0 i h)) (greatest _ (s.bytes.most _) (at i)))),
  )

  -- ---- in numbers

  low-is : low n ≡ neg_ℤ (pos (extent 128 127 n))
  unfolding low extent weighed sum_to total
  low-is = sign-sum 0 255 (λ b. neg_ℤ (pos (weighed 128 127 b))) terms ∙ sum-neg 64 (λ i. weighed 128 127 (at i))
    where
      terms : (b : ℤ) → term (cond (non_neg b) 0 255) b ≡ neg_ℤ (pos (weighed 128 127 b))
      terms (pos k) = refl
      terms (negsuc k) = refl

      sum-neg : (m : ℕ) (f : ℕ → ℕ) → sum_to m (λ i. neg_ℤ (pos (f i))) ≡ neg_ℤ (pos (total m f))
      sum-neg zero f = refl
      sum-neg (suc m) f = rw (sum-neg m f) (simp differences (dif-eq _ _ _ _ (omega arith)))

  high_is : high n ≡ pos (extent 127 128 n)
  unfolding high extent weighed
  high_is = sign-sum 255 0 (λ b. pos (weighed 127 128 b)) terms ∙ sum-pos 64 (λ i. weighed 127 128 (at i))
    where
      terms : (b : ℤ) → term (cond (non_neg b) 255 0) b ≡ pos (weighed 127 128 b)
      terms (pos k) = refl
      terms (negsuc k) = refl

  pub low-size : nat_abs (low n) ≡ extent 128 127 n
  low-size = ap nat_abs low-is ∙ nat_abs-neg (pos (extent 128 127 n))

  pub high-size : nat_abs (high n) ≡ extent 127 128 n
  high-size = ap nat_abs high_is

  pub low-negative : low n ≡ neg_ℤ (pos (nat_abs (low n)))
  low-negative = low-is ∙ ap (λ (k : ℕ). neg_ℤ (pos k)) (sym low-size)

  pub high-positive : high n ≡ pos (nat_abs (high n))
  high-positive = high_is ∙ ap pos (sym high-size)
