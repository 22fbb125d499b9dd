-- A loop that stores what a list's elements become one by one, from a place on.
-- Assumes nothing.
use mathlib.Core.Path.{◌≡◌, refl, sym, ap, ◌∙◌}
use mathlib.Core.List.{List, map}
use Prim.Native.Nat.{ℕ, ◌+◌, ◌<◌, ◌≤◌}
use native.Mathlib.Numerals.{add-one}
use native.Mathlib.Omega.{arith}
use lib.ListN.{length, get_or, set, length-set, length-map, get_or-map}
use lib.Seq.{paste, paste-zero, paste-suc}

-- l is out with what the first k of q become, from place `at` on
pub record Pasted {A B : Type 0} (clamp : A → B) (out : List B) (at : ℕ) (q : List A) (k : ℕ) (l : List B) : Type 0 where
  pub long : length l ≡ length out
  pub is : l ≡ paste out at (map clamp q) k

module _ {A B : Type 0} {clamp : A → B} {out : List B} {at : ℕ} {q : List A} where
  pub pasted-none : Pasted clamp out at q 0 out
  pasted-none = record { long = refl; is = paste-zero out at (map clamp q) }

  pub pasted-more : {k : ℕ} {l : List B} {x : B} → Pasted clamp out at q k l → k < length q → at + length q ≤ length out → (d : A) → x ≡ clamp (get_or q k d) → Pasted clamp out at q (k + 1) (set l (at + k) x)
  pasted-more {k = k} {l = l} {x = x} h b room d e =
      record {
        long = length-set l (at + k) x ∙ h.long;
        is =
            (λ i. set (h.is i) (at + k) ((e ∙ sym (get_or-map clamp q k d)) i))
            ∙ paste-suc out at (map clamp q) k (clamp d) (omega arith) (omega (arith, length-map q clamp)) ∙ ap (paste out at (map clamp q)) (sym (add-one k));
      }
