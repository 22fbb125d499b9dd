-- A part of a slice that is lent to a call, `&mut out[a..a + n]`, and comes back: what it held, and what the whole then holds.
-- Assumes nothing.
use mathlib.Core.Path.{◌≡◌, sym, ap, ◌∙◌}
use mathlib.Core.List.{List, ◌++◌, append_assoc}
use Prim.Native.Nat.{ℕ, ◌+◌, ◌-◌, ◌≤◌, ◌<◌}
use native.Mathlib.Nat.{le_of_eq}
use native.Mathlib.Omega.{arith}
use lib.ListN.{length, get_or, take, drop, length-drop}
use lib.Seq.{paste, take_all, drop-drop, length-take-le, get_or-take, get_or-drop}

-- what the part held when it was lent, and the whole with left in its place: as the borrow checker gives them
abbrev pub lent : {A : Type 0} → ℕ → ℕ → List A → List A
lent a n out = take (a + n - a) (drop a out)

abbrev pub back : {A : Type 0} → ℕ → ℕ → List A → List A → List A
back a n out left = take a out ++ (left ++ drop (a + n - a) (drop a out))

pub length-lent : {A : Type 0} (a n : ℕ) (l : List A) → a + n ≤ length l → length (lent a n l) ≡ n
length-lent a n l b = length-take-le (a + n - a) (drop a l) (omega (arith, length-drop a l)) ∙ omega arith

pub lent_at : {A : Type 0} (a n : ℕ) (l : List A) (d : A) {t : ℕ} → t < n → get_or (lent a n l) t d ≡ get_or l (a + t) d
lent_at a n l d {t} h = get_or-take (a + n - a) (drop a l) t d (omega arith) ∙ get_or-drop a l t d

-- n places from a on written, the rest kept
pub part-back : {A : Type 0} (out left : List A) (a n : ℕ) → length left ≡ n → back a n out left ≡ paste out a left n
part-back out left a n e =
    let k : a + n - a ≡ n = omega arith in
    sym (append_assoc (take a out) left (drop (a + n - a) (drop a out)))
    ∙ (λ i. take a out ++ sym (take_all n left (le_of_eq e)) i ++ (ap (λ (m : ℕ). drop m (drop a out)) k ∙ drop-drop n a out) i)
