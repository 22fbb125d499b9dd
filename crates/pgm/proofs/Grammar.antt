-- `header_of` and the grammar say the same.
-- Assumes nothing.
use Prim.Native.Nat.{ℕ, suc, ◌+◌, ◌-◌, ◌*◌, ◌≤◌}
use mathlib.Core.Path.{◌≡◌, refl, ap, sym, ◌∙◌}
use mathlib.Core.Bool.{Bool, true, false, cond, not, ◌||◌, true≢false, false≢true}
use mathlib.Core.List.{List, [], ◌∷◌, ◌++◌, append_assoc}
use mathlib.Core.Logic.{◌⊎◌, inl, inr}
use native.Mathlib.Omega.{arith}
use borrow.Author.Tests.{eqb-true, eqb-false, ne_eqb}
use lib.Dec.{eqb}
use lib.ListN.{length, take, drop, length-take, length-append, take-append-drop}
use lib.Seq.{take-append-add}
use Rattle.pgm.specs.Grammar.{Without, none, kept, opened, inside, closed-cr, closed-lf, Run, one, more, decimal, Starts}
use Rattle.pgm.specs.Header.{Answer, Header, Refused, Text, end, byte, is_space, is_digit, in_comment, bare, starts_with, after, value, digits, number, field, verdict, whole, delimiter, exactly, header, header_of}
use Rattle.pgm.proofs.Text.{space-no-digit}

-- t is the bytes ts and then u
data Split : List ℕ → Text → Text → Type 0 where
  here : {t : Text} → Split [] t t
  there : {b n : ℕ} {ts : List ℕ} {t u : Text} → Split ts t u → Split (b ∷ ts) (byte b n t) u

data All (is : ℕ → Bool) : List ℕ → Type 0 where
  no_more : All is []
  and : {b : ℕ} {bs : List ℕ} → is b ≡ true → All is bs → All is (b ∷ bs)

all : {is : ℕ → Bool} {s : List ℕ} → Run is s → All is s
all (one h) = and h no_more
all (more h r) = and h (all r)

contrary : {A : Type 0} (x : Bool) → x ≡ true → x ≡ false → A
contrary x p q = let z : ◌≡◌ {A = Bool} true false = sym p ∙ q in absurd (true≢false z)

digit-no-space : (b : ℕ) → is_space b ≡ true → is_digit b ≡ false
digit-no-space b s = go (is_digit b) refl
  where
    go : (x : Bool) → is_digit b ≡ x → is_digit b ≡ false
    go true e = contrary (is_space b) s (space-no-digit b e)
    go false e = e

-- a run at the start of a text, and what follows it
starts-run : {is : ℕ → Bool} {s : List ℕ} {t u : Text} → Run is s → Split s t u → starts_with is t ≡ true
unfolding starts_with
starts-run (one h) (there r) = h
starts-run (more h r) (there q) = h

after_run : {is : ℕ → Bool} {s : List ℕ} {t u : Text} → All is s → Split s t u → starts_with is u ≡ false → after is t ≡ u
unfolding after starts_with
after_run {u = end} no_more here e = refl
after_run {u = byte b n t} no_more here e = simp e
after_run (and h a) (there r) e = rw h (after_run a r e)

value-run : {a : List ℕ} {t u : Text} (v : ℕ) → All is_digit a → Split a t u → starts_with is_digit u ≡ false → value v t ≡ decimal v a
unfolding value decimal starts_with
value-run {u = end} v no_more here e = refl
value-run {u = byte b n t} v no_more here e = simp e
value-run v (and {b = b} h a) (there r) e = rw h (value-run (10 * v + (b - 48)) a r e)

split-append : (s : List ℕ) {ts : List ℕ} {t u : Text} → Split (s ++ ts) t u → (m : Text) × Split s t m × Split ts m u
split-append [] {t = t} r = (t, here, r)
split-append (b ∷ s) (there r) = let q = split-append s r in (q.0, there q.1, q.2)

starts-digit : {a : List ℕ} {t u : Text} → Run is_digit a → Split a t u → starts_with is_space t ≡ false
unfolding starts_with
starts-digit (one {b = b} h) (there r) = space-no-digit b h
starts-digit (more {b = b} h r) (there q) = space-no-digit b h

starts-space : {s : List ℕ} {t u : Text} → Run is_space s → Split s t u → starts_with is_digit t ≡ false
unfolding starts_with
starts-space (one {b = b} h) (there r) = digit-no-space b h
starts-space (more {b = b} h r) (there q) = digit-no-space b h

-- white space and a number at the start of a text
field-run : (k : ℕ → Text → Answer) {s a : List ℕ} {t u x : Text} → Run is_space s → Run is_digit a → Split s t u → Split a u x → starts_with is_digit x ≡ false → field k t ≡ k (decimal 0 a) x
unfolding field number digits
field-run k s a r q e =
    rw (
      starts-run s r,
      after_run (all s) r (starts-digit a q),
      starts-run a q,
      value-run 0 (all a) q e,
      after_run (all a) q e,
    )

-- "P5" and three numbers, whatever is made of them: the grammar's reading of a text
module _ (k : ℕ → ℕ → ℕ → Text → Answer) where
  reading : Text → Answer
  reading = exactly 80 (exactly 53 (field λ w. field λ h. field λ m. k w h m))

  text-read : {s₁ a s₂ b s₃ c : List ℕ} {t : Text} {d n : ℕ} {u : Text} → Run is_space s₁ → Run is_digit a → Run is_space s₂ → Run is_digit b → Run is_space s₃ → Run is_digit c → is_space d ≡ true
      → Split (80 ∷ 53 ∷ (s₁ ++ (a ++ (s₂ ++ (b ++ (s₃ ++ c)))))) t (byte d n u)
      → reading t ≡ k (decimal 0 a) (decimal 0 b) (decimal 0 c) (byte d n u)
  unfolding exactly reading starts_with
  text-read {s₁ = s₁} {a = a} {s₂ = s₂} {b = b} {s₃ = s₃} {d = d} p₁ pa p₂ pb p₃ pc e (there (there r)) =
      let q₁ = split-append s₁ r in
      let qa = split-append a q₁.2 in
      let q₂ = split-append s₂ qa.2 in
      let qb = split-append b q₂.2 in
      let q₃ = split-append s₃ qb.2 in
      field-run _ p₁ pa q₁.1 qa.1 (starts-space p₂ q₂.1)
      ∙ field-run _ p₂ pb q₂.1 qb.1 (starts-space p₃ q₃.1)
      ∙ field-run _ p₃ pc q₃.1 q₃.2 (digit-no-space d e)

space-no-sharp : (d : ℕ) → is_space d ≡ true → d ≡ 35 → ⊥
unfolding is_space
space-no-sharp d s e = let z : false ≡ true = rw e at s in false≢true z

-- the bytes of a text, from those of the input
bare-split : {x : Bool} {front ts : List ℕ} (n d m : ℕ) (rest : List ℕ) → (d ≡ 35 → ⊥) → Without x front ts → m ≡ n + length front + 1
    → Split ts (bare x n (front ++ (d ∷ rest))) (byte d m (bare false m rest))
unfolding bare in_comment
bare-split n d m rest h none e =
    let z : n + 1 ≡ m = omega arith in
    rw (ne_eqb d 35 h, z) here
bare-split n d m rest h (kept {b = b} i w) e = rw (ne_eqb b 35 i) (there (bare-split (n + 1) d m rest h w (omega arith)))
bare-split n d m rest h (opened w) e = bare-split (n + 1) d m rest h w (omega arith)
bare-split n d m rest h (inside {b = b} i j w) e = rw (ne_eqb b 13 i, ne_eqb b 10 j) (bare-split (n + 1) d m rest h w (omega arith))
bare-split n d m rest h (closed-cr w) e = bare-split (n + 1) d m rest h w (omega arith)
bare-split n d m rest h (closed-lf w) e = bare-split (n + 1) d m rest h w (omega arith)

take-front : (front : List ℕ) (d : ℕ) (rest : List ℕ) → length front + 1 ≤ 65536 → take 65536 (front ++ (d ∷ rest)) ≡ front ++ (d ∷ take (65535 - length front) rest)
take-front front d rest h =
    let e : 65536 ≡ length front + suc (65535 - length front) = omega arith in
    ap (λ (k : ℕ). take k (front ++ (d ∷ rest))) e ∙ take-append-add front (d ∷ rest) (suc (65535 - length front))

-- whatever is made of the numbers of a header is made of those of the grammar
start-read : (k : ℕ → ℕ → ℕ → Text → Answer) (input : List ℕ) (n w h : ℕ) → Starts input n w h
    → (d : ℕ) × (u : Text) × (is_space d ≡ true) × (reading k (bare false 0 (take 65536 input)) ≡ k w h 255 (byte d n u))
start-read k input n w h s =
    let d = s.delimiter in
    let u = bare false n (take (65535 - length s.front) s.rest) in
    let e : n ≡ 0 + length s.front + 1 = omega (arith, s.is-long) in
    let q : take 65536 input ≡ s.front ++ (d ∷ take (65535 - length s.front) s.rest) = ap (take 65536) s.is-input ∙ take-front s.front d s.rest (omega (arith, s.is-long, s.limit)) in
    let r = bare-split 0 d n (take (65535 - length s.front) s.rest) (space-no-sharp d s.is-delimiter) s.bare e in
    let t = text-read k s.is-space₁ s.is-width.digits s.is-space₂ s.is-height.digits s.is-space₃ s.is-maxval.digits s.is-delimiter r in
    (d, u, s.is-delimiter, ap (λ (xs : List ℕ). reading k (bare false 0 xs)) q ∙ t ∙ simp (s.is-width.valued, s.is-height.valued, s.is-maxval.valued))

-- the answer to an input that starts with a header
pub answered : (input : List ℕ) (n w h : ℕ) → Starts input n w h → header_of input ≡ verdict w h n
unfolding header_of header reading delimiter whole
answered input n w h s = let r = start-read delimiter input n w h s in r.3 ∙ simp r.2

-- the numbers of a text as they stand, with the place behind them
placed : ℕ → ℕ → ℕ → Text → Answer
placed w h m end = Refused 10
placed w h m (byte b n t) = Header w h n

-- an input starts with one header at most
pub only : (input : List ℕ) (n w h n' w' h' : ℕ) → Starts input n w h → Starts input n' w' h' → (n ≡ n') × (w ≡ w') × (h ≡ h')
unfolding placed
only input n w h n' w' h' s s' =
    let p = (start-read placed input n w h s).3 in
    let q = (start-read placed input n' w' h' s').3 in
    let e : Header w h n ≡ Header w' h' n' = sym p ∙ q in
    ((cc), (cc), (cc))

-- a text's start of a kind, and what follows it
after-split : (is : ℕ → Bool) (t : Text) → (s : List ℕ) × All is s × Split s t (after is t)
unfolding after
after-split is end = ([], no_more, here)
after-split is (byte b n t) = go (is b) refl (after-split is t)
  where
    go : (x : Bool) → is b ≡ x → (s : List ℕ) × All is s × Split s t (after is t) → (s : List ℕ) × All is s × Split s (byte b n t) (cond x (after is t) (byte b n t))
    go true e r = (b ∷ r.0, and e r.1, there r.2)
    go false e r = ([], no_more, here)

after_none : (is : ℕ → Bool) (t : Text) → starts_with is (after is t) ≡ false
unfolding after starts_with
after_none is end = refl
after_none is (byte b n t) = go (is b) refl (after_none is t)
  where
    go : (x : Bool) → is b ≡ x → starts_with is (after is t) ≡ false → starts_with is (cond x (after is t) (byte b n t)) ≡ false
    go true e r = r
    go false e r = e

all-run : {is : ℕ → Bool} {b : ℕ} {s : List ℕ} → is b ≡ true → All is s → Run is (b ∷ s)
all-run h no_more = one h
all-run h (and i a) = more h (all-run i a)

run-split : (is : ℕ → Bool) (t : Text) → starts_with is t ≡ true → (s : List ℕ) × Run is s × Split s t (after is t)
unfolding starts_with after
run-split is end h = absurd (false≢true h)
run-split is (byte b n t) h = let r = after-split is t in (b ∷ r.0, all-run h r.1, rw h (there r.2))

split-join : {s ts : List ℕ} {t m u : Text} → Split s t m → Split ts m u → Split (s ++ ts) t u
split-join here q = q
split-join (there r) q = there (split-join r q)

record Field (k : ℕ → Text → Answer) (t : Text) : Type 0 where
  space : List ℕ
  numeral : List ℕ
  behind : Text
  middle : Text
  is-space : Run is_space space
  is-numeral : Run is_digit numeral
  first : Split space t middle
  second : Split numeral middle behind
  reads : field k t ≡ k (decimal 0 numeral) behind

field_found : (k : ℕ → Text → Answer) (t : Text) → (field k t ≡ Refused 10) ⊎ Field k t
unfolding field number
field_found k t = go (starts_with is_space t) refl (starts_with is_digit (after is_space t)) refl
  where
    go : (x : Bool) → starts_with is_space t ≡ x → (y : Bool) → starts_with is_digit (after is_space t) ≡ y → (field k t ≡ Refused 10) ⊎ Field k t
    go false e y i = inl (rw e)
    go true e false i = inl (rw (e, i))
    go true e true i =
        let p = run-split is_space t e in
        let q = run-split is_digit (after is_space t) i in
        inr (record { space = p.0; numeral = q.0; behind = after is_digit (after is_space t); middle = after is_space t; is-space = p.1; is-numeral = q.1; first = p.2; second = q.2; reads = field-run k p.1 q.1 p.2 q.2 (after_none is_digit (after is_space t)) })

record Read (k : ℕ → ℕ → ℕ → Text → Answer) (t : Text) : Type 0 where
  s₁ : List ℕ
  a : List ℕ
  s₂ : List ℕ
  b : List ℕ
  s₃ : List ℕ
  c : List ℕ
  behind : Text
  is-s₁ : Run is_space s₁
  is-a : Run is_digit a
  is-s₂ : Run is_space s₂
  is_b : Run is_digit b
  is-s₃ : Run is_space s₃
  is_c : Run is_digit c
  text : Split (80 ∷ 53 ∷ (s₁ ++ (a ++ (s₂ ++ (b ++ (s₃ ++ c)))))) t behind
  reads : reading k t ≡ k (decimal 0 a) (decimal 0 b) (decimal 0 c) behind

module _ (k : ℕ → ℕ → ℕ → Text → Answer) where
  abbrev from-maxval : ℕ → ℕ → Text → Answer
  from-maxval w h = field λ m. k w h m

  abbrev from-height : ℕ → Text → Answer
  from-height w = field λ h. from-maxval w h

  -- the three numbers behind "P5"
  record Three (t : Text) : Type 0 where
    width : Field from-height t
    height : Field (from-maxval (decimal 0 width.numeral)) width.behind
    maxval : Field (k (decimal 0 width.numeral) (decimal 0 height.numeral)) height.behind

  three-found : (t : Text) → (field from-height t ≡ Refused 10) ⊎ Three t
  three-found t = go (field_found _ t)
    where
      third : (f : Field from-height t) (g : Field (from-maxval (decimal 0 f.numeral)) f.behind)
          → (from-maxval (decimal 0 f.numeral) (decimal 0 g.numeral) g.behind ≡ Refused 10) ⊎ Field (k (decimal 0 f.numeral) (decimal 0 g.numeral)) g.behind
          → (field from-height t ≡ Refused 10) ⊎ Three t
      third f g (inl e) = inl (f.reads ∙ g.reads ∙ e)
      third f g (inr h) = inr (record { width = f; height = g; maxval = h })

      second : (f : Field from-height t) → (from-height (decimal 0 f.numeral) f.behind ≡ Refused 10) ⊎ Field (from-maxval (decimal 0 f.numeral)) f.behind
          → (field from-height t ≡ Refused 10) ⊎ Three t
      second f (inl e) = inl (f.reads ∙ e)
      second f (inr g) = third f g (field_found _ g.behind)

      go : (field from-height t ≡ Refused 10) ⊎ Field from-height t → (field from-height t ≡ Refused 10) ⊎ Three t
      go (inl e) = inl e
      go (inr f) = second f (field_found _ f.behind)

  read-three : (x y : ℕ) (t : Text) → Three t → Read k (byte 80 x (byte 53 y t))
  unfolding exactly reading
  read-three x y t q =
      let f = q.width in
      let g = q.height in
      let h = q.maxval in
      record {
        s₁ = f.space;
        a = f.numeral;
        s₂ = g.space;
        b = g.numeral;
        s₃ = h.space;
        c = h.numeral;
        behind = h.behind;
        is-s₁ = f.is-space;
        is-a = f.is-numeral;
        is-s₂ = g.is-space;
        is_b = g.is-numeral;
        is-s₃ = h.is-space;
        is_c = h.is-numeral;
        text = there (there (split-join f.first (split-join f.second (split-join g.first (split-join g.second (split-join h.first h.second))))));
        reads = f.reads ∙ g.reads ∙ h.reads;
      }

  -- a text that is not read to its numbers is refused
  read_found : (t : Text) → (reading k t ≡ Refused 10) ⊎ Read k t
  unfolding exactly reading
  read_found end = inl refl
  read_found (byte p x end) = go (eqb p 80)
    where
      go : (z : Bool) → (cond z (exactly 53 (field from-height) end) (Refused 10) ≡ Refused 10) ⊎ Read k (byte p x end)
      go true = inl refl
      go false = inl refl
  read_found (byte p x (byte q y t)) = go (eqb p 80) refl (eqb q 53) refl (three-found t)
    where
      go : (z : Bool) → eqb p 80 ≡ z → (z' : Bool) → eqb q 53 ≡ z' → (field from-height t ≡ Refused 10) ⊎ Three t
          → (reading k (byte p x (byte q y t)) ≡ Refused 10) ⊎ Read k (byte p x (byte q y t))
      go false e z' i r = inl (simp e)
      go true e false i r = inl (simp (e, i))
      go true e true i (inl r) = inl (simp (e, i) r)
      go true e true i (inr r) = inr (rw (eqb-true p 80 e, eqb-true q 53 i) (read-three x y t r))

-- the bytes of the input, from those of a text
record Bytes (bs : List ℕ) (x : Bool) (n d m : ℕ) (ts : List ℕ) : Type 0 where
  front : List ℕ
  rest : List ℕ
  all-bytes : bs ≡ front ++ (d ∷ rest)
  place : m ≡ n + length front + 1
  bare-bytes : Without x front ts

not_end : {A : Type 0} {ts : List ℕ} {t : Text} {d m : ℕ} {u : Text} → Split ts t (byte d m u) → end ≡ t → A
not_end here e = let z : ◌≡◌ {A = ℕ} 0 1 = cc in absurd (omega arith)
not_end (there s) e = let z : ◌≡◌ {A = ℕ} 0 1 = cc in absurd (omega arith)

-- one byte more in front
longer : {bs : List ℕ} {x x' : Bool} {n d m : ℕ} {ts ts' : List ℕ} (b : ℕ) → ((front : List ℕ) → Without x' front ts → Without x (b ∷ front) ts') → Bytes bs x' (n + 1) d m ts → Bytes (b ∷ bs) x n d m ts'
longer b f r =
    record { front = b ∷ r.front; rest = r.rest; all-bytes = ap (λ (xs : List ℕ). b ∷ xs) r.all-bytes; place = omega (arith, r.place); bare-bytes = f r.front r.bare-bytes }

-- a byte that stands in no comment
kept-found : (b : ℕ) (bs : List ℕ) (n d m : ℕ) (ts : List ℕ) (t u w : Text) → (b ≡ 35 → ⊥) → ((ts : List ℕ) (t : Text) → w ≡ t → Split ts t (byte d m u) → Bytes bs false (n + 1) d m ts) → byte b (n + 1) w ≡ t → Split ts t (byte d m u) → Bytes (b ∷ bs) false n d m ts
kept-found b bs n d m ts t u w i ih e here =
    let p : b ≡ d = cc in
    let q : n + 1 ≡ m = cc in
    record { front = []; rest = bs; all-bytes = ap (λ (y : ℕ). y ∷ bs) p; place = omega arith; bare-bytes = none }
kept-found b bs n d m ts t u w i ih e (there {b = b'} {ts = ts'} {t = t'} s) =
    let p : b ≡ b' = cc in
    let q : w ≡ t' = cc in
    longer b (λ front v. rw (← p) (kept i v)) (ih ts' t' q s)

bare-found : (bs : List ℕ) (x : Bool) (n d m : ℕ) (ts : List ℕ) (t u : Text) → bare x n bs ≡ t → Split ts t (byte d m u) → Bytes bs x n d m ts
unfolding bare in_comment
bare-found [] x n d m ts t u e s = not_end s e
bare-found (b ∷ bs) true n d m ts t u e s = go (eqb b 13) refl (eqb b 10) refl e (λ y f. bare-found bs y (n + 1) d m ts t u f s)
  where
    go : (y : Bool) → eqb b 13 ≡ y → (z : Bool) → eqb b 10 ≡ z → bare (not (y || z)) (n + 1) bs ≡ t → ((y : Bool) → bare y (n + 1) bs ≡ t → Bytes bs y (n + 1) d m ts) → Bytes (b ∷ bs) true n d m ts
    go true i z j f ih = longer b (λ front v. rw (eqb-true b 13 i) (closed-cr v)) (ih false f)
    go false i true j f ih = longer b (λ front v. rw (eqb-true b 10 j) (closed-lf v)) (ih false f)
    go false i false j f ih = longer b (λ front v. inside (eqb-false b 13 i) (eqb-false b 10 j) v) (ih true f)
bare-found (b ∷ bs) false n d m ts t u e s = go (eqb b 35) refl e (λ y ts' t' f s'. bare-found bs y (n + 1) d m ts' t' u f s')
  where
    go : (y : Bool) → eqb b 35 ≡ y → cond y (bare y (n + 1) bs) (byte b (n + 1) (bare y (n + 1) bs)) ≡ t → ((y : Bool) (ts : List ℕ) (t : Text) → bare y (n + 1) bs ≡ t → Split ts t (byte d m u) → Bytes bs y (n + 1) d m ts) → Bytes (b ∷ bs) false n d m ts
    go true i f ih = longer b (λ front v. rw (eqb-true b 35 i) (opened v)) (ih true ts t f s)
    go false i f ih = kept-found b bs n d m ts t u (bare false (n + 1) bs) (eqb-false b 35 i) (ih false) f s

no_byte : (w h m : ℕ) → delimiter w h m end ≡ Refused 10
unfolding delimiter
no_byte w h m = refl

no-space : (w h m d n : ℕ) (u : Text) → is_space d ≡ false → delimiter w h m (byte d n u) ≡ Refused 10
unfolding delimiter
no-space w h m d n u e = simp e

no-maxval : (w h m d n : ℕ) (u : Text) → eqb m 255 ≡ false → delimiter w h m (byte d n u) ≡ Refused 10
unfolding delimiter whole
no-maxval w h m d n u e = elim (is_space d) as (λ x. cond x (cond (eqb m 255) (verdict w h n) (Refused 10)) (Refused 10) ≡ Refused 10) [ true ↦ rw e | false ↦ refl ]

-- an input that the answer does not refuse by 10 starts with a header
pub record Begins (input : List ℕ) : Type 0 where
  pub n : ℕ
  pub w : ℕ
  pub h : ℕ
  pub starts : Starts input n w h

begins : (input : List ℕ) (d n : ℕ) (u : Text) (r : Read delimiter (bare false 0 (take 65536 input))) → r.behind ≡ byte d n u → is_space d ≡ true → decimal 0 r.c ≡ 255 → Begins input
begins input d n u r e s v =
    let q = bare-found (take 65536 input) false 0 d n _ (bare false 0 (take 65536 input)) u refl (rw e at r.text) in
    let l : length q.front + 1 ≤ 65536 = omega (arith, simp (length-take, length-append) at (ap length q.all-bytes)) in
    record {
      n = n;
      w = decimal 0 r.a;
      h = decimal 0 r.b;
      starts =
          record {
            front = q.front;
            delimiter = d;
            rest = q.rest ++ drop 65536 input;
            space₁ = r.s₁;
            width = r.a;
            space₂ = r.s₂;
            height = r.b;
            space₃ = r.s₃;
            maxval = r.c;
            is-input = sym (take-append-drop 65536 input) ∙ ap (λ (xs : List ℕ). xs ++ drop 65536 input) q.all-bytes ∙ append_assoc q.front (d ∷ q.rest) (drop 65536 input);
            is-long = omega (arith, q.place);
            limit = omega (arith, q.place);
            bare = q.bare-bytes;
            is-space₁ = r.is-s₁;
            is-width = record { digits = r.is-a; valued = refl };
            is-space₂ = r.is-s₂;
            is-height = record { digits = r.is_b; valued = refl };
            is-space₃ = r.is-s₃;
            is-maxval = record { digits = r.is_c; valued = v };
            is-delimiter = s;
          };
    }

pub found : (input : List ℕ) → (header_of input ≡ Refused 10) ⊎ Begins input
unfolding header_of header reading
found input = go (read_found delimiter (bare false 0 (take 65536 input)))
  where
    tests : (r : Read delimiter (bare false 0 (take 65536 input))) (d n : ℕ) (u : Text) → r.behind ≡ byte d n u → (x : Bool) → is_space d ≡ x → (y : Bool) → eqb (decimal 0 r.c) 255 ≡ y
        → (delimiter (decimal 0 r.a) (decimal 0 r.b) (decimal 0 r.c) (byte d n u) ≡ Refused 10) ⊎ Begins input
    tests r d n u e true i true j = inr (begins input d n u r e i (eqb-true _ 255 j))
    tests r d n u e false i y j = inl (no-space _ _ _ d n u i)
    tests r d n u e true i false j = inl (no-maxval _ _ _ d n u j)

    behind : (r : Read delimiter (bare false 0 (take 65536 input))) (x : Text) → r.behind ≡ x
        → (delimiter (decimal 0 r.a) (decimal 0 r.b) (decimal 0 r.c) x ≡ Refused 10) ⊎ Begins input
    behind r end e = inl (no_byte _ _ _)
    behind r (byte d n u) e = tests r d n u e (is_space d) refl (eqb (decimal 0 r.c) 255) refl

    with_read : (r : Read delimiter (bare false 0 (take 65536 input))) → (delimiter (decimal 0 r.a) (decimal 0 r.b) (decimal 0 r.c) r.behind ≡ Refused 10) ⊎ Begins input
        → (header_of input ≡ Refused 10) ⊎ Begins input
    with_read r (inl e) = inl (r.reads ∙ e)
    with_read r (inr b) = inr b

    go : (reading delimiter (bare false 0 (take 65536 input)) ≡ Refused 10) ⊎ Read delimiter (bare false 0 (take 65536 input)) → (header_of input ≡ Refused 10) ⊎ Begins input
    go (inl e) = inl e
    go (inr r) = with_read r (behind r r.behind refl)
