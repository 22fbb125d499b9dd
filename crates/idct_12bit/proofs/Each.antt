-- A loop that replaces each element of a list in place.
-- Assumes nothing.
use mathlib.Core.Path.{◌≡◌, refl, ap, ◌∙◌}
use mathlib.Core.List.{List, map}
use Prim.Native.Nat.{ℕ, ◌+◌, ◌<◌, ◌≤◌}
use native.Mathlib.Omega.{arith}
use lib.ListN.{length, get_or, set}
use lib.Seq.{get_or-set_other}
use Rattle.lists.proofs.Tab.{Filled, none, next, filled, map-get_d}

-- the first k elements of l are replaced, the others are still those of xs
pub record Each {A : Type 0} (f : A → A) (d : A) (xs : List A) (k : ℕ) (l : List A) : Type 0 where
  pub front : Filled (λ i. f (get_or xs i d)) (length xs) k l
  pub rest : (j : ℕ) → k ≤ j → get_or l j d ≡ get_or xs j d

pub each_none : {A : Type 0} {f : A → A} {d : A} {xs : List A} → Each f d xs 0 xs
each_none {xs = xs} = record { front = none _ (length xs) xs refl; rest = λ j h. refl }

pub each_more : {A : Type 0} {f : A → A} {d : A} {xs : List A} {k : ℕ} {l : List A} {x : A} → Each f d xs k l → k < length xs → x ≡ f (get_or l k d) → Each f d xs (k + 1) (set l k x)
each_more {f = f} {d = d} {k = k} {l = l} {x = x} h b e =
    record {
      front = next h.front b (e ∙ ap f (h.rest k (omega arith)));
      rest = λ j g. get_or-set_other l k j x d (omega arith) ∙ h.rest j (omega arith);
    }

pub each_all : {A : Type 0} {f : A → A} {d : A} {xs : List A} {k : ℕ} {l : List A} → Each f d xs k l → length xs ≤ k → l ≡ map f xs
each_all {f = f} {d = d} {xs = xs} h b = filled h.front b ∙ map-get_d f d xs (length xs) refl
