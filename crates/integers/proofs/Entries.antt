-- What owning an array of signed numbers, by value, tells of its entries: each is a number of the array's width.
-- Assumes nothing.
use Prim.Native.Nat.{ℕ, zero, suc, ◌^◌, ◌<◌}
use mathlib.Core.List.{List, [], ◌∷◌}
use lib.ListN.{get_or}
use lib.IntN.{ℤ, pos}
use lib.Pow.{pow_pos}
use lib.Signed.{mag}
use mir.Syntax.{Width}
use mir.Val.{Val, hbits}
use denote.Array.{Array, each}
use denote.Laws.{Is}
use denote.Shadow.{shadow}
use denote.Signed.{SInt}

each_fits : (w : Width) (xs : List ℤ) (us : List Val) → shadow (each ℤ (SInt w).own_val xs us) → (k : ℕ) → mag (get_or xs k (pos 0)) < 2 ^ hbits w
each_fits w [] us p k = pow_pos (hbits w)
each_fits w (x ∷ xs) [] p k = absurd p
each_fits w (x ∷ xs) (u ∷ us) p zero = p.0.1
each_fits w (x ∷ xs) (u ∷ us) p (suc k) = each_fits w xs us p.1 k

pub entries : (w : Width) {n : ℕ} (xs : List ℤ) {vs : List Val} → Is (Array (SInt w) n) xs vs → (k : ℕ) → mag (get_or xs k (pos 0)) < 2 ^ hbits w
entries w xs p = each_fits w xs p.0 p.1.1
