-- One byte more: each way of `step_bare`, `behind_number` and `Reader::step`; and a reader's bytes one after the other.
-- Assumes nothing.
use Prim.Native.Nat.{ℕ, suc, ◌+◌, ◌-◌, ◌*◌, ◌≤◌, ◌<◌}
use mathlib.Core.Path.{◌≡◌, ap, sym, ◌∙◌}
use mathlib.Core.Bool.{Bool, true, false}
use mathlib.Core.List.{List, [], ◌∷◌, ◌++◌, append-nil}
use native.Mathlib.Omega.{arith}
use borrow.Author.Tests.{eq-eqb, ne_eqb}
use lib.ListN.{take}
use lib.Seq.{take-nil, append_snoc}
use Rattle.pgm.specs.Header.{Answer, Refused, Text, byte, is_space, is_digit, in_comment, bare, delimiter, whole, exactly, header, header_of}
use Rattle.std.specs.Prelude.{Result, Ok, Err}
use Rattle.refusals.specs.declared.Refusal.{Refusal}
use Rattle.pgm.specs.declared.Header.{Header as Found}
use Rattle.pgm.specs.Reader.{Like, told, behind, from, following, reads, goes_on}
use Rattle.pgm.specs.declared.Field.{Field}
use Rattle.pgm.specs.declared.Field.TheVariants as is
use Rattle.pgm.specs.declared.Place.{Place}
use Rattle.pgm.specs.declared.Place.TheVariants as at
use Rattle.pgm.specs.declared.Reader.{Reader}
use Rattle.pgm.specs.declared.Step.{Step}
use Rattle.pgm.specs.declared.Step.TheVariants as step
use Rattle.pgm.proofs.Text.{behind-like, field-space, field-none, number-space, number-none, number-digit, digits-digit, digits-end, from_end}

exactly-yes : (x : ℕ) (k : Text → Answer) (b n : ℕ) (t : Text) → b ≡ x → exactly x k (byte b n t) ≡ k t
unfolding exactly
exactly-yes x k b n t h = simp (eq-eqb b x h)

exactly-no : (x : ℕ) (k : Text → Answer) (b n : ℕ) (t : Text) → (b ≡ x → ⊥) → exactly x k (byte b n t) ≡ Refused 10
unfolding exactly
exactly-no x k b n t h = simp (ne_eqb b x h)

behind-none : (f : Field) (v b n : ℕ) (t : Text) → is_space b ≡ false → behind f v (byte b n t) ≡ Refused 10
unfolding behind delimiter
behind-none is.Width v b n t s = field-none _ b n t s
behind-none (is.Height w) v b n t s = field-none _ b n t s
behind-none (is.Maxval w h) v b n t s = simp s

-- a byte outside comments, at each place
module _ (p : Place) (b n : ℕ) (t : Text) where
  pub start-yes : p ≡ at.Start → b ≡ 80 → from p (byte b n t) ≡ from at.P t
  unfolding from header behind
  start-yes e h = rw e (exactly-yes 80 _ b n t h)

  pub start-no : p ≡ at.Start → (b ≡ 80 → ⊥) → from p (byte b n t) ≡ Refused 10
  unfolding from header
  start-no e h = rw e (exactly-no 80 _ b n t h)

  pub p-yes : p ≡ at.P → b ≡ 53 → from p (byte b n t) ≡ from at.Magic t
  unfolding from
  p-yes e h = rw e (exactly-yes 53 _ b n t h)

  pub p-no : p ≡ at.P → (b ≡ 53 → ⊥) → from p (byte b n t) ≡ Refused 10
  unfolding from
  p-no e h = rw e (exactly-no 53 _ b n t h)

  pub magic-space : p ≡ at.Magic → is_space b ≡ true → from p (byte b n t) ≡ from (at.Before is.Width) t
  unfolding from
  magic-space e s = rw e (field-space _ b n t s)

  pub magic-no : p ≡ at.Magic → is_space b ≡ false → from p (byte b n t) ≡ Refused 10
  unfolding from
  magic-no e s = rw e (field-none _ b n t s)

  pub before-space : (f : Field) → p ≡ at.Before f → is_space b ≡ true → from p (byte b n t) ≡ from (at.Before f) t
  unfolding from
  before-space f e s = rw e (number-space _ b n t s)

  pub before-digit : (f : Field) (w : ℕ) → p ≡ at.Before f → Like w (10 * 0 + (b - 48)) → is_digit b ≡ true → from p (byte b n t) ≡ from (at.In f w) t
  unfolding from
  before-digit f w e l d = rw e (number-digit (behind f) b n t (behind-like f) w l d)

  pub before-no : (f : Field) → p ≡ at.Before f → is_space b ≡ false → is_digit b ≡ false → from p (byte b n t) ≡ Refused 10
  unfolding from
  before-no f e s d = rw e (number-none _ b n t s d)

  pub in-digit : (f : Field) (v w : ℕ) → p ≡ at.In f v → Like w (10 * v + (b - 48)) → is_digit b ≡ true → from p (byte b n t) ≡ from (at.In f w) t
  unfolding from
  in-digit f v w e l d = rw e (digits-digit (behind f) b n t (behind-like f) v w l d)

  pub in_end : (f : Field) (v : ℕ) → p ≡ at.In f v → is_digit b ≡ false → from p (byte b n t) ≡ behind f v (byte b n t)
  unfolding from
  in_end f v e d = rw e (digits-end _ b n t v d)

  pub in-no : (f : Field) (v : ℕ) → p ≡ at.In f v → is_digit b ≡ false → is_space b ≡ false → from p (byte b n t) ≡ Refused 10
  in-no f v e d s = in_end f v e d ∙ behind-none f v b n t s

-- white space behind a number
module _ (f : Field) (v b n : ℕ) (t : Text) (s : is_space b ≡ true) where
  pub behind-width : f ≡ is.Width → behind f v (byte b n t) ≡ from (at.Before (is.Height v)) t
  unfolding behind from
  behind-width e = rw e (field-space _ b n t s)

  pub behind-height : (w : ℕ) → f ≡ is.Height w → behind f v (byte b n t) ≡ from (at.Before (is.Maxval w v)) t
  unfolding behind from
  behind-height w e = rw e (field-space _ b n t s)

  pub behind-maxval : (w h : ℕ) → f ≡ is.Maxval w h → behind f v (byte b n t) ≡ whole w h v n
  unfolding behind delimiter
  behind-maxval w h e = rw (e, s)

-- ---- a reader and a byte

take_limit : (c : ℕ) (b : ℕ) (bs : List ℕ) → c < 65536 → take (65536 - c) (b ∷ bs) ≡ b ∷ take (65536 - (c + 1)) bs
take_limit c b bs h = let e : 65536 - c ≡ suc (65536 - (c + 1)) = omega arith in rw e

pub past-limit : (p : Place) (x : Bool) (c : ℕ) (bs : List ℕ) → 65536 ≤ c → from p (following x c bs) ≡ Refused 10
unfolding following bare
past-limit p x c bs h =
    let none : 65536 - c ≡ 0 = omega arith in
    rw none (from_end p)

module _ (r : Reader) (b : ℕ) (bs : List ℕ) (h : r.count < 65536) where
  pub in-comment : r.comment ≡ true → {x : Bool} → x ≡ in_comment true b → reads r (b ∷ bs) ≡ from r.place (following x (r.count + 1) bs)
  unfolding reads following bare
  in-comment e i = rw (take_limit r.count b bs h, e, i)

  pub comment-begins : r.comment ≡ false → b ≡ 35 → reads r (b ∷ bs) ≡ from r.place (following true (r.count + 1) bs)
  unfolding reads following bare in_comment
  comment-begins e i = rw (take_limit r.count b bs h, e, eq-eqb b 35 i)

  pub no-comment : r.comment ≡ false → (b ≡ 35 → ⊥) → reads r (b ∷ bs) ≡ from r.place (byte b (r.count + 1) (following false (r.count + 1) bs))
  unfolding reads following bare in_comment
  no-comment e i = rw (take_limit r.count b bs h, e, ne_eqb b 35 i)

-- no byte left
pub reads_end : (r : Reader) → reads r [] ≡ Refused 10
unfolding reads following bare
reads_end r = rw (take-nil {A = ℕ} (65536 - r.count)) (from_end _)

-- ---- a reader that has read xs: whatever follows, it answers as `header_of` does

abbrev pub Has : Reader → List ℕ → Type 0
Has r xs = (bs : List ℕ) → reads r bs ≡ header_of (xs ++ bs)

-- where the input ends
pub has_end : (r : Reader) (xs : List ℕ) → Has r xs → Refused 10 ≡ header_of xs
has_end r xs has = sym (reads_end r) ∙ has [] ∙ ap header_of (append-nil xs)

module _ (r : Reader) (xs : List ℕ) (b : ℕ) (m : Result Step Refusal) (has : Has r xs) (s : (bs : List ℕ) → reads r (b ∷ bs) ≡ goes_on m bs) where
  stepped : (bs : List ℕ) → goes_on m bs ≡ header_of ((xs ++ (b ∷ [])) ++ bs)
  stepped bs = sym (s bs) ∙ has (b ∷ bs) ∙ ap header_of (sym (append_snoc xs b bs))

  pub has_more : (r' : Reader) → m ≡ Ok (step.More r') → Has r' (xs ++ (b ∷ []))
  unfolding goes_on
  has_more r' e bs = rw e at (stepped bs)

  pub has_done : (h : Found) → m ≡ Ok (step.Done h) → (bs : List ℕ) → told (Ok h) ≡ header_of ((xs ++ (b ∷ [])) ++ bs)
  unfolding goes_on
  has_done h e bs = rw e at (stepped bs)

  pub has_refused : (e : Refusal) → m ≡ Err e → (bs : List ℕ) → told (Err e) ≡ header_of ((xs ++ (b ∷ [])) ++ bs)
  unfolding goes_on
  has_refused r e bs = rw e at (stepped bs)
