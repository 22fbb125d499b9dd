-- The definitions of a header, one byte of a text at a time; and that they do not tell numbers above 4096 apart.
-- Assumes nothing.
use Prim.Native.Nat.{ℕ, ◌+◌, ◌-◌, ◌*◌, ◌≤◌, ◌<◌}
use mathlib.Core.Path.{◌≡◌, refl, ap, sym, ◌∙◌}
use mathlib.Core.Bool.{Bool, true, false, cond, ◌&&◌, and-false}
use native.Mathlib.Omega.{arith}
use borrow.Author.Tests.{leb-true, leb-false, lt-leb, ne_eqb}
use lib.Dec.{leb}
use Rattle.plane.specs.Plane.{measured}
use Rattle.pgm.specs.Header.{Answer, Refused, Text, end, byte, is_space, is_digit, starts_with, after, value, digits, number, field, verdict, whole, delimiter, exactly, header}
use Rattle.pgm.specs.Reader.{Like, behind, from}
use Rattle.pgm.specs.declared.Field.{Field}
use Rattle.pgm.specs.declared.Field.TheVariants as is
use Rattle.pgm.specs.declared.Place.{Place}
use Rattle.pgm.specs.declared.Place.TheVariants as at

and_left : (a b : Bool) → (a && b) ≡ true → a ≡ true
and_left true b h = refl
and_left false b h = h

pub digit-least : (b : ℕ) → is_digit b ≡ true → 48 ≤ b
unfolding is_digit
digit-least b d = leb-true 48 b (and_left _ _ d)

-- no byte is both
pub space-no-digit : (b : ℕ) → is_digit b ≡ true → is_space b ≡ false
unfolding is_space
space-no-digit b d =
    let l = digit-least b d in
    simp (ne_eqb b 32 (omega arith), ne_eqb b 9 (omega arith), ne_eqb b 13 (omega arith), ne_eqb b 10 (omega arith))

-- ---- numbers above 4096

data Case (v w : ℕ) : Type 0 where
  same : v ≡ w → Case v w
  large : 4096 < v → 4096 < w → Case v w

case : (v w : ℕ) → Like v w → Case v w
case v w h = go (leb v 4096) refl
  where
    go : (t : Bool) → leb v 4096 ≡ t → Case v w
    go true e = same (omega (arith, leb-true v 4096 e))
    go false e = large (omega (arith, leb-false v 4096 e)) (omega (arith, leb-false v 4096 e))

beyond : (v : ℕ) → 4096 < v → measured v ≡ false
unfolding measured
beyond v h = simp (lt-leb v 4096 h, and-false)

whole-width : (h m n : ℕ) (v w : ℕ) → Case v w → whole v h m n ≡ whole w h m n
unfolding whole verdict
whole-width h m n v w (same e) = ap (λ (x : ℕ). whole x h m n) e
whole-width h m n v w (large p q) = simp (beyond v p, beyond w q)

whole-height : (w m n : ℕ) (h g : ℕ) → Case h g → whole w h m n ≡ whole w g m n
unfolding whole verdict
whole-height w m n h g (same e) = ap (λ (x : ℕ). whole w x m n) e
whole-height w m n h g (large p q) = simp (beyond h p, beyond g q, and-false)

whole-maxval : (w h n : ℕ) (m l : ℕ) → Case m l → whole w h m n ≡ whole w h l n
unfolding whole
whole-maxval w h n m l (same e) = ap (λ (x : ℕ). whole w h x n) e
whole-maxval w h n m l (large p q) = simp (ne_eqb m 255 (omega arith), ne_eqb l 255 (omega arith))

-- what reads on does not tell like numbers apart
abbrev Alike : (ℕ → Text → Answer) → (ℕ → Text → Answer) → Type 0
Alike k k' = (v w : ℕ) → Like v w → (t : Text) → k v t ≡ k' w t

value-like : (t : Text) (v w : ℕ) → Like v w → Like (value v t) (value w t)
unfolding value
value-like end v w h = h
value-like (byte b n t) v w h =
    elim (is_digit b) as (λ d. Like (cond d (value (10 * v + (b - 48)) t) v) (cond d (value (10 * w + (b - 48)) t) w))
    [ true ↦ value-like t (10 * v + (b - 48)) (10 * w + (b - 48)) (omega arith) | false ↦ h ]

digits-like : (k k' : ℕ → Text → Answer) → Alike k k' → Alike (digits k) (digits k')
unfolding digits
digits-like k k' a v w h t = a _ _ (value-like t v w h) (after is_digit t)

field-like : (k k' : ℕ → Text → Answer) → Alike k k' → (t : Text) → field k t ≡ field k' t
unfolding field number
field-like k k' a t =
    ap (λ (x : Answer). cond (starts_with is_space t) (cond (starts_with is_digit (after is_space t)) x (Refused 10)) (Refused 10))
    (digits-like k k' a 0 0 refl (after is_space t))

delimiter-like : (w v h g : ℕ) → Like w v → Like h g → Alike (delimiter w h) (delimiter v g)
unfolding delimiter
delimiter-like w v h g p q m l r end = refl
delimiter-like w v h g p q m l r (byte b n t) =
    ap (λ (x : Answer). cond (is_space b) x (Refused 10))
    (whole-width h m n w v (case w v p) ∙ whole-height v m n h g (case h g q) ∙ whole-maxval v g n m l (case m l r))

height-like : (w v : ℕ) → Like w v → Alike (behind (is.Height w)) (behind (is.Height v))
unfolding behind
height-like w v p h g q t = field-like (delimiter w h) (delimiter v g) (delimiter-like w v h g p q) t

pub behind-like : (f : Field) → Alike (behind f) (behind f)
unfolding behind
behind-like is.Width w v p t = field-like (behind (is.Height w)) (behind (is.Height v)) (height-like w v p) t
behind-like (is.Height w) h g q t = height-like w w refl h g q t
behind-like (is.Maxval w h) m l r t = delimiter-like w w h h refl refl m l r t

-- ---- a text's first byte

module _ (k : ℕ → Text → Answer) (b n : ℕ) (t : Text) where
  pub field-space : is_space b ≡ true → field k (byte b n t) ≡ number k t
  unfolding field number starts_with after
  field-space s = simp s

  pub field-none : is_space b ≡ false → field k (byte b n t) ≡ Refused 10
  unfolding field starts_with
  field-none s = simp s

  pub number-space : is_space b ≡ true → number k (byte b n t) ≡ number k t
  unfolding number after
  number-space s = simp s

  pub number-none : is_space b ≡ false → is_digit b ≡ false → number k (byte b n t) ≡ Refused 10
  unfolding number after starts_with
  number-none s d = simp (s, d)

  number_more : is_digit b ≡ true → number k (byte b n t) ≡ digits k 0 (byte b n t)
  unfolding number after starts_with
  number_more d = simp (space-no-digit b d, d)

  digits_more : (v : ℕ) → is_digit b ≡ true → digits k v (byte b n t) ≡ digits k (10 * v + (b - 48)) t
  unfolding digits value after
  digits_more v d = simp d

  pub digits-end : (v : ℕ) → is_digit b ≡ false → digits k v (byte b n t) ≡ k v (byte b n t)
  unfolding digits value after
  digits-end v d = simp d

  -- a digit, its value held as one like it
  pub digits-digit : Alike k k → (v w : ℕ) → Like w (10 * v + (b - 48)) → is_digit b ≡ true → digits k v (byte b n t) ≡ digits k w t
  digits-digit a v w l d = digits_more v d ∙ sym (digits-like k k a w (10 * v + (b - 48)) l t)

  pub number-digit : Alike k k → (w : ℕ) → Like w (10 * 0 + (b - 48)) → is_digit b ≡ true → number k (byte b n t) ≡ digits k w t
  number-digit a w l d = number_more d ∙ digits-digit a 0 w l d

-- a text that ends is no header
pub from_end : (p : Place) → from p end ≡ Refused 10
unfolding from header exactly behind field number digits starts_with after value delimiter
from_end at.Start = refl
from_end at.P = refl
from_end at.Magic = refl
from_end (at.Before f) = refl
from_end (at.In is.Width v) = refl
from_end (at.In (is.Height w) v) = refl
from_end (at.In (is.Maxval w h) v) = refl
