-- What `header_of` is, by the grammar: a header's width, height and length, or 8, or 10; that it goes by no byte behind the header; and
-- that a reader has its answer at the header's last byte, no sooner and no later.
-- Assumes nothing.
use Prim.Native.Nat.{ℕ, ◌+◌, ◌≤◌, ◌<◌}
use mathlib.Core.Path.{◌≡◌, refl, ap, sym, ◌∙◌}
use mathlib.Core.Bool.{Bool, true, false, ◌&&◌, true≢false, false≢true}
use mathlib.Core.List.{List, [], ◌∷◌, ◌++◌, append_assoc, append-nil}
use mathlib.Core.Logic.{◌⊎◌, inl, inr, ◌↔◌}
use native.Mathlib.Omega.{arith}
use lib.ListN.{length, take, drop, length-take, length-append, take-append-drop}
use lib.Seq.{take_at, append_snoc, take-append_seam}
use Rattle.plane.specs.Plane.{measured}
use Rattle.plane.proofs.Coding.{measured-range}
use Rattle.pgm.specs.Grammar.{Starts}
use Rattle.pgm.specs.Header.{Answer, Header, Refused, verdict, header_of}
use Rattle.pgm.specs.declared.Reader.{Reader}
use Rattle.pgm.proofs.Grammar.{answered, only, found, Begins}
use Rattle.pgm.proofs.Steps.{Has, has_end}

data Verdict (w h n : ℕ) : Type 0 where
  taken : (measured w && measured h) ≡ true → verdict w h n ≡ Header w h n → Verdict w h n
  out : (measured w && measured h) ≡ false → verdict w h n ≡ Refused 8 → Verdict w h n

judged : (w h n : ℕ) → Verdict w h n
unfolding verdict
judged w h n = go (measured w && measured h) refl
  where
    go : (x : Bool) → (measured w && measured h) ≡ x → Verdict w h n
    go true e = taken e (rw e)
    go false e = out e (rw e)

header_refused : {A : Type 0} (w h n k : ℕ) → Header w h n ≡ Refused k → A
header_refused w h n k e = let z : ◌≡◌ {A = ℕ} 0 1 = cc in absurd (omega arith)

eight-ten : {A : Type 0} → Refused 8 ≡ Refused 10 → A
eight-ten e = let z : ◌≡◌ {A = ℕ} 8 10 = cc in absurd (omega arith)

pub verdict-ten : {A : Type 0} (w h n : ℕ) → verdict w h n ≡ Refused 10 → A
verdict-ten {A = A} w h n e = go (judged w h n)
  where
    go : Verdict w h n → A
    go (taken i v) = header_refused w h n 10 (sym v ∙ e)
    go (out i v) = eight-ten (sym v ∙ e)

-- accepted are the headers with a width and a height of 1 to 4096
pub accepts : (input : List ℕ) (n w h : ℕ) → (header_of input ≡ Header w h n) ↔ (Starts input n w h × ((measured w && measured h) ≡ true))
accepts input n w h = (λ e. go e (found input), λ s. back s (judged w h n))
  where
    judge : (b : Begins input) → header_of input ≡ Header w h n → Verdict b.w b.h b.n → Starts input n w h × ((measured w && measured h) ≡ true)
    judge b e (taken i v) =
        let q : Header b.w b.h b.n ≡ Header w h n = sym v ∙ sym (answered input b.n b.w b.h b.starts) ∙ e in
        let p₁ : b.w ≡ w = cc in
        let p₂ : b.h ≡ h = cc in
        let p₃ : b.n ≡ n = cc in
        (rw (← p₁, ← p₂, ← p₃) b.starts, rw (← p₁, ← p₂) i)
    judge b e (out i v) = header_refused w h n 8 (sym e ∙ answered input b.n b.w b.h b.starts ∙ v)

    go : header_of input ≡ Header w h n → (header_of input ≡ Refused 10) ⊎ Begins input → Starts input n w h × ((measured w && measured h) ≡ true)
    go e (inl f) = header_refused w h n 10 (sym e ∙ f)
    go e (inr b) = judge b e (judged b.w b.h b.n)

    back : Starts input n w h × ((measured w && measured h) ≡ true) → Verdict w h n → header_of input ≡ Header w h n
    back s (taken i v) = answered input n w h s.0 ∙ v
    back s (out i v) = absurd (true≢false (sym s.1 ∙ i))

both_true : (a b : Bool) → (a && b) ≡ true → (a ≡ true) × (b ≡ true)
both_true true b e = (refl, e)
both_true false b e = absurd (false≢true e)

pub accepted-sizes : (input : List ℕ) (n w h : ℕ) → header_of input ≡ Header w h n → ((1 ≤ w) × (w ≤ 4096)) × ((1 ≤ h) × (h ≤ 4096))
accepted-sizes input n w h e =
    let both = both_true (measured w) (measured h) ((accepts input n w h).0 e).1 in
    (measured-range w both.0, measured-range h both.1)

-- 8 are the headers with another width or height
abbrev Beyond : List ℕ → Type 0
Beyond input = (n : ℕ) × (w : ℕ) × (h : ℕ) × Starts input n w h × ((measured w && measured h) ≡ false)

pub refuses-8 : (input : List ℕ) → (header_of input ≡ Refused 8) ↔ Beyond input
refuses-8 input = (λ e. go e (found input), λ s. back s (judged s.1 s.2 s.0))
  where
    judge : (b : Begins input) → header_of input ≡ Refused 8 → Verdict b.w b.h b.n → Beyond input
    judge b e (taken i v) = header_refused b.w b.h b.n 8 (sym v ∙ sym (answered input b.n b.w b.h b.starts) ∙ e)
    judge b e (out i v) = (b.n, b.w, b.h, b.starts, i)

    go : header_of input ≡ Refused 8 → (header_of input ≡ Refused 10) ⊎ Begins input → Beyond input
    go e (inl f) = eight-ten (sym e ∙ f)
    go e (inr b) = judge b e (judged b.w b.h b.n)

    back : (s : Beyond input) → Verdict s.1 s.2 s.0 → header_of input ≡ Refused 8
    back s (taken i v) = absurd (true≢false (sym i ∙ s.4))
    back s (out i v) = answered input s.0 s.1 s.2 s.3 ∙ v

-- 10 is all else
pub refuses-10 : (input : List ℕ) → (header_of input ≡ Refused 10) ↔ ((n w h : ℕ) → Starts input n w h → ⊥)
refuses-10 input = (λ e n w h s. verdict-ten w h n (sym (answered input n w h s) ∙ e), λ f. go f (found input))
  where
    go : ((n w h : ℕ) → Starts input n w h → ⊥) → (header_of input ≡ Refused 10) ⊎ Begins input → header_of input ≡ Refused 10
    go f (inl e) = e
    go f (inr b) = absurd (f b.n b.w b.h b.starts)

-- ---- the bytes of a header, and no others

module _ {input : List ℕ} {n w h : ℕ} (s : Starts input n w h) where
  -- the same header where other bytes follow it
  followed : (other ys : List ℕ) → ys ≡ s.front ++ (s.delimiter ∷ other) → Starts ys n w h
  followed other ys e =
      record {
        front = s.front;
        delimiter = s.delimiter;
        rest = other;
        is-input = e;
        is-long = s.is-long;
        limit = s.limit;
        space₁ = s.space₁;
        width = s.width;
        space₂ = s.space₂;
        height = s.height;
        space₃ = s.space₃;
        maxval = s.maxval;
        bare = s.bare;
        is-space₁ = s.is-space₁;
        is-width = s.is-width;
        is-space₂ = s.is-space₂;
        is-height = s.is-height;
        is-space₃ = s.is-space₃;
        is-maxval = s.is-maxval;
        is-delimiter = s.is-delimiter;
      }

  header-bytes : take n input ≡ s.front ++ (s.delimiter ∷ [])
  header-bytes =
      ap (take n) (s.is-input ∙ sym (append_snoc s.front s.delimiter s.rest))
      ∙ take_at (s.front ++ (s.delimiter ∷ [])) s.rest n (length-append s.front (s.delimiter ∷ []) ∙ omega (arith, s.is-long))

  starts-taken : (other : List ℕ) → Starts (take n input ++ other) n w h
  starts-taken other = followed other (take n input ++ other) (ap (λ (xs : List ℕ). xs ++ other) header-bytes ∙ append_snoc s.front s.delimiter other)

  starts-longer : (other : List ℕ) → Starts (input ++ other) n w h
  starts-longer other = followed (s.rest ++ other) (input ++ other) (ap (λ (xs : List ℕ). xs ++ other) s.is-input ∙ append_assoc s.front (s.delimiter ∷ s.rest) other)

  starts-length : n < length input + 1
  starts-length = omega (arith, s.is-long, simp length-append at (ap length s.is-input))

-- no byte behind the header counts
pub unread : (input other : List ℕ) (n w h : ℕ) → Starts input n w h → header_of (take n input ++ other) ≡ header_of input
unread input other n w h s = answered _ n w h (starts-taken s other) ∙ sym (answered input n w h s)

-- and no fewer bytes are a header
pub too_short : (input : List ℕ) (n w h m : ℕ) → Starts input n w h → m < n → header_of (take m input) ≡ Refused 10
too_short input n w h m s q = go (found (take m input))
  where
    go : (header_of (take m input) ≡ Refused 10) ⊎ Begins (take m input) → header_of (take m input) ≡ Refused 10
    go (inl e) = e
    go (inr b) =
        let longer : Starts input b.n b.w b.h = rw (take-append-drop m input) at (starts-longer b.starts (drop m input)) in
        let same = only input n w h b.n b.w b.h s longer in
        absurd (omega (arith, same.0, starts-length b.starts, length-take m input))

-- no reader goes on behind a header's delimiter
pub no-later : (r : Reader) (xs : List ℕ) (w h : ℕ) → Starts xs (length xs) w h → Has r xs → ⊥
no-later r xs w h s has = verdict-ten w h (length xs) (sym (answered xs (length xs) w h s) ∙ sym (has_end r xs has))

-- and none has its answer before it
pub no-sooner : (a : Answer) (xs other : List ℕ) (w h : ℕ) → Starts (xs ++ other) (length (xs ++ other)) w h → length xs < length (xs ++ other) → ((bs : List ℕ) → a ≡ header_of (xs ++ bs)) → ⊥
no-sooner a xs other w h s q has =
    verdict-ten w h (length (xs ++ other))
    (sym (answered (xs ++ other) (length (xs ++ other)) w h s)
    ∙ sym (has other)
    ∙ has []
    ∙ ap header_of (append-nil xs ∙ sym (take-append_seam xs other))
    ∙ too_short (xs ++ other) (length (xs ++ other)) w h (length xs) s q)
