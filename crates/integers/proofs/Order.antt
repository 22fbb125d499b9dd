-- The order of ℤ, of differences, as that of ℕ.
-- Assumes nothing.
use mathlib.Core.Path.{◌≡◌, sym, subst, ◌∙◌}
use Prim.Native.Nat.{ℕ, suc, ◌+◌, ◌≤◌, ◌<◌}
use native.Mathlib.Decide.{dec_le}
use native.Mathlib.Omega.{arith}
use borrow.Author.Tests.{le-leb, lt-leb}
use lib.Dec.{T, leb, leb→le, le→leb}
use lib.IntN.{ℤ, pos, negsuc, ◌+ℤ◌}
use lib.Signed.{le_z, ◌≤ℤ◌}
use Rattle.integers.proofs.Difference.{dif, dif-ind, dif-add, by-dif}

leb-same : (a b c d : ℕ) → (a ≤ b → c ≤ d) → (b < a → d < c) → leb a b ≡ leb c d
leb-same a b c d f g = go (dec_le a b)
  where
    go : Dec (a ≤ b) → leb a b ≡ leb c d
    go (yes l) = le-leb a b l ∙ sym (le-leb c d (f l))
    go (no l) = let h : b < a = omega arith in lt-leb a b h ∙ sym (lt-leb c d (g h))

pub le_z-dif : (a b c d : ℕ) → le_z (dif a b) (dif c d) ≡ leb (a + d) (c + b)
le_z-dif a b c d =
    dif-ind (λ a b z. le_z z (dif c d) ≡ leb (a + d) (c + b))
    (λ b k. dif-ind (λ c d z. le_z (pos k) z ≡ leb (b + k + d) (c + b))
    (λ d l. leb-same k l (b + k + d) (d + l + b) (λ h. omega arith) (λ h. omega arith))
    (λ c l. sym (lt-leb (b + k + (c + suc l)) (c + b) (omega arith))) c d)
    (λ a k. dif-ind (λ c d z. le_z (negsuc k) z ≡ leb (a + d) (c + (a + suc k)))
    (λ d l. sym (le-leb (a + d) (d + l + (a + suc k)) (omega arith)))
    (λ c l. leb-same l k (a + (c + suc l)) (c + (a + suc k)) (λ h. omega arith) (λ h. omega arith)) c d) a b

pub dif-le : (a b c d : ℕ) → a + d ≤ c + b → dif a b ≤ℤ dif c d
dif-le a b c d h = record { le = subst T (sym (le_z-dif a b c d)) (le→leb (a + d) (c + b) h) }

pub le-dif : (a b c d : ℕ) → dif a b ≤ℤ dif c d → a + d ≤ c + b
le-dif a b c d h = leb→le (a + d) (c + b) (subst T (le_z-dif a b c d) h.le)

pub ≤ℤ-+ : (x y z w : ℤ) → x ≤ℤ y → z ≤ℤ w → (x +ℤ z) ≤ℤ (y +ℤ w)
≤ℤ-+ =
    by-dif _ λ a b. by-dif _ λ c d. by-dif _ λ e f. by-dif _ λ g h. λ p q.
    let l = le-dif a b c d p in
    let m = le-dif e f g h q in
    simp dif-add (dif-le _ _ _ _ (omega arith))
