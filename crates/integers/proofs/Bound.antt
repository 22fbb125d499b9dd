-- How large a linear form can be, and so where `wrap` changes nothing.
-- Assumes nothing.
use mathlib.Core.Path.{◌≡◌, sym}
use mathlib.Core.List.{List, [], ◌∷◌}
use Prim.Native.Nat.{ℕ, suc, ◌*◌, ◌^◌, ◌<◌, ◌≤◌, zero-le}
use native.Mathlib.Nat.{le_refl, le_trans, le_of_lt, lt_of_le_of_lt, le_of_eq, add-le-add, add-mul, mul-le-mul_left}
use native.Mathlib.Omega.{arith}
use lib.ListN.{get_or}
use lib.IntN.{ℤ, pos, negsuc, nat_abs, ◌*ℤ◌}
use lib.Signed.{mag}
use mir.Syntax.{Width}
use mir.Val.{SFits, hbits}
use Rattle.integers.specs.Wrap.{wrap}
use Rattle.integers.specs.Linear.{dot, weight}
use Rattle.integers.proofs.Ring.{nat_abs-+, nat_abs-*}
use Rattle.integers.proofs.Wrap.{wrap-id}

-- no sum is larger than the coefficients' absolute values together times the largest number
pub nat_abs-dot : (u xs : List ℤ) (B : ℕ) → ((k : ℕ) → nat_abs (get_or xs k (pos 0)) ≤ B) → nat_abs (dot u xs) ≤ weight u * B
unfolding dot weight
nat_abs-dot [] xs B h = zero-le
nat_abs-dot (c ∷ cs) [] B h = zero-le
nat_abs-dot (c ∷ cs) (x ∷ xs) B h =
    le_trans (nat_abs-+ (c *ℤ x) (dot cs xs))
    (le_trans (add-le-add (le_trans (le_of_eq (nat_abs-* c x)) (mul-le-mul_left (nat_abs c) (h 0))) (nat_abs-dot cs xs B (λ k. h (suc k))))
    (le_of_eq (sym (add-mul (nat_abs c) (weight cs) B))))

pub mag-le : (z : ℤ) → mag z ≤ nat_abs z
mag-le (pos n) = le_refl n
mag-le (negsuc n) = omega arith

-- the largest absolute value that fits
pub fits-small : (w : Width) (z : ℤ) → SFits w z → nat_abs z ≤ 2 ^ hbits w
fits-small w (pos n) f = le_of_lt f.sfits
fits-small w (negsuc n) f = f.sfits

pub small-fits : (w : Width) (z : ℤ) → nat_abs z < 2 ^ hbits w → SFits w z
small-fits w z h = record { sfits = lt_of_le_of_lt (mag-le z) h }

-- where the whole sum fits, nothing wraps
pub wrap-dot : (w : Width) (u xs : List ℤ) (B : ℕ) → ((k : ℕ) → nat_abs (get_or xs k (pos 0)) ≤ B) → weight u * B < 2 ^ hbits w → wrap w (dot u xs) ≡ dot u xs
wrap-dot w u xs B h l =
    wrap-id w (dot u xs) (small-fits w (dot u xs) (lt_of_le_of_lt (nat_abs-dot u xs B h) l))
