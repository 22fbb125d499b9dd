-- The loop of a join: one row of blocks after the other, through parts of the two strips and of the output; and what the tests of a join
-- say. Assumes nothing.
use mathlib.Core.Path.{◌≡◌, refl, sym, ap, ◌∙◌}
use mathlib.Core.Bool.{Bool, cond}
use mathlib.Core.List.{List, ◌++◌}
use Prim.Native.Nat.{ℕ, ◌+◌, ◌-◌, ◌*◌, ◌/◌, ◌%◌, ◌≤◌, ◌<◌}
use native.Mathlib.Decide.{dec_lt}
use native.Mathlib.Nat.{mul-le-mul, mul-le-mul_left, mul_assoc, mul-add}
use native.Mathlib.Omega.{arith}
use borrow.Author.Tests.{lt-ltb, le-ltb, eqb-true}
use lib.Dec.{T, ltb}
use lib.IntN.{ℤ, pos}
use lib.ListN.{length, get_or, length-append, get_or-append}
use lib.Seq.{get_or-append-add}
use Rattle.lists.specs.Grid.{grid, at, beside}
use Rattle.lists.proofs.Tab.{Filled, none, same, all, filled, filled-paste, by-elements, tab-get_d}
use Rattle.lists.proofs.Grid.{column-of, row_of}
use Rattle.lists.proofs.Parts.{lent, back, length-lent, lent_at, part-back}
use Rattle.refusals.specs.Refusals.{status, written}
use Rattle.refusals.proofs.Refusals.{after, passed-all}
use Rattle.plane.specs.Plane.{blocks}
use Rattle.plane.specs.Scale.{Scale, full, half, quarter}
use Rattle.plane.specs.Join.{joined, same_divisors, strip_tests, fitting_tests, join_tests, ShowsBoth, Joinable}
use Rattle.plane.proofs.Coding.{measured-range}
use Rattle.plane.proofs.Scales.{cropping-full, cropping-half, cropping-quarter}
use Rattle.plane.proofs.Joined.{joined-blocks, joined-shows}

-- the numbers of a turn
pub record JoinRoom (p q y : ℕ) (left right out : List ℤ) : Type 0 where
  pub read_left : p * y + p ≤ length left
  pub read_right : q * y + q ≤ length right
  pub write : (p + q) * y + (p + q) ≤ length out
  pub few-left : length left ≤ 2 * 16777216
  pub few-right : length right ≤ 2 * 16777216
  pub few-out : length out ≤ 2 * 16777216

pub join-room : {p q h y : ℕ} {left right first : List ℤ} (out : List ℤ) → Joinable p q h left right first → length out ≡ (p + q) * h → y < h → JoinRoom p q y left right out
join-room {p} {q} {h} {y} out f e l =
    let s : p + q ≤ 65536 = omega (arith, f.p-most, f.q-most) in
    record {
      read_left = omega (arith, f.left-long, mul-le-mul_left p l);
      read_right = omega (arith, f.right-long, mul-le-mul_left q l);
      write = omega (arith, e, mul-le-mul_left (p + q) l);
      few-left = omega (arith, f.left-long, mul-le-mul f.p-most f.h-most);
      few-right = omega (arith, f.right-long, mul-le-mul f.q-most f.h-most);
      few-out = omega (arith, e, mul-le-mul s f.h-most);
    }

-- the parts that a turn lends
pub row_room : {p q h y : ℕ} {left right first out : List ℤ} → Joinable p q h left right first → JoinRoom p q y left right out →
    ((length (lent (p * y) p left) % 64 ≡ 0) × (length (lent (q * y) q right) % 64 ≡ 0))
    × ((length (lent ((p + q) * y) (p + q) out) ≡ length (lent (p * y) p left) + length (lent (q * y) q right)) × (length (lent ((p + q) * y) (p + q) out) ≤ 65536))
row_room {p} {q} {h} {y} {left} {right} {first} {out} f r =
    let whole = length-lent ((p + q) * y) (p + q) out r.write in
    let a = length-lent (p * y) p left r.read_left in
    let b = length-lent (q * y) q right r.read_right in (
      (ap (λ (n : ℕ). n % 64) a ∙ f.p-blocks, ap (λ (n : ℕ). n % 64) b ∙ f.q-blocks),
      (whole ∙ sym (λ i. a i + b i), omega (arith, whole, f.p-most, f.q-most)),
    )

-- a row, block by block: the first n places are written
abbrev pub Copied : List ℤ → ℕ → List ℤ → Type 0
Copied row n out = Filled (λ i. get_or row i (pos 0)) (length row) n out

pub copied-none : (row out : List ℤ) → length out ≡ length row → Copied row 0 out
copied-none row out e = none _ (length row) out e

pub copied-more : (row : List ℤ) (k : ℕ) {out new : List ℤ} → Copied row (64 * k) out → 64 * k + 64 ≤ length row → new ≡ lent (64 * k) 64 row → Copied row (64 * (k + 1)) (back (64 * k) 64 out new)
copied-more row k {out} {new} s b e =
    let long = length-lent (64 * k) 64 row b in
    rw (part-back out new (64 * k) 64 (ap length e ∙ long), e)
    (same _ (length row) (64 * k + 64) (64 * (k + 1)) _
    (filled-paste _ (length row) (64 * k) out (lent (64 * k) 64 row) 64 s (omega arith) (by-elements 64 _ (pos 0) (lent (64 * k) 64 row) long (λ j c. lent_at (64 * k) 64 row (pos 0) c)))
    (omega arith))

pub copied-all : (row : List ℤ) (k : ℕ) {out : List ℤ} → Copied row (64 * k) out → length row ≤ 64 * k → out ≡ row
copied-all row k s l = filled s l ∙ tab-get_d (pos 0) row (length row) refl

module _ (p q h : ℕ) (left right : List ℤ) where
  abbrev beside_at : ℕ → ℕ → ℤ
  beside_at x y = cond (ltb x p) (at (pos 0) p left x y) (at (pos 0) q right (x - p) y)

  -- the first n places are written
  abbrev pub Joined : ℕ → List ℤ → Type 0
  Joined n out = Filled (λ i. beside_at (i % (p + q)) (i / (p + q))) ((p + q) * h) n out

  pub joined-none : (out : List ℤ) → length out ≡ (p + q) * h → Joined ((p + q) * 0) out
  joined-none out e = same _ ((p + q) * h) 0 ((p + q) * 0) out (none _ ((p + q) * h) out e) (omega arith)

  -- a row of the left and then one of the right, place by place
  abbrev row : ℕ → List ℤ
  row y = lent (p * y) p left ++ lent (q * y) q right

  module _ (y : ℕ) (a : p * y + p ≤ length left) (b : q * y + q ≤ length right) where
    pub row-long : length (row y) ≡ p + q
    row-long = length-append (lent (p * y) p left) (lent (q * y) q right) ∙ (λ i. length-lent (p * y) p left a i + length-lent (q * y) q right b i)

    row_at : (j : ℕ) → j < p + q → get_or (row y) j (pos 0) ≡ beside_at j y
    row_at j l = go (dec_lt j p)
      where
        long : length (lent (p * y) p left) ≡ p
        long = length-lent (p * y) p left a

        go : Dec (j < p) → get_or (row y) j (pos 0) ≡ beside_at j y
        go (yes c) =
            get_or-append (lent (p * y) p left) (lent (q * y) q right) (pos 0) j (omega (arith, long)) ∙ lent_at (p * y) p left (pos 0) c
            ∙ sym (ap (λ (t : Bool). cond t (at (pos 0) p left j y) (at (pos 0) q right (j - p) y)) (lt-ltb j p c))
        go (no c) =
            let k : length (lent (p * y) p left) + (j - p) ≡ j = omega (arith, long) in
            ap (λ (n : ℕ). get_or (row y) n (pos 0)) (sym k) ∙ get_or-append-add (lent (p * y) p left) (lent (q * y) q right) (j - p) (pos 0) ∙ lent_at (q * y) q right (pos 0) (omega arith)
            ∙ sym (ap (λ (t : Bool). cond t (at (pos 0) p left j y) (at (pos 0) q right (j - p) y)) (le-ltb j p (omega arith)))

    pub joined-row : {out new : List ℤ} → y < h → Joined ((p + q) * y) out → new ≡ row y → Joined ((p + q) * (y + 1)) (back ((p + q) * y) (p + q) out new)
    joined-row {out} {new} l s e =
        rw (part-back out new ((p + q) * y) (p + q) (ap length e ∙ row-long), e)
        (same _ ((p + q) * h) ((p + q) * y + (p + q)) ((p + q) * (y + 1)) _
        (filled-paste _ ((p + q) * h) ((p + q) * y) out (row y) (p + q) s (omega (arith, mul-le-mul_left (p + q) l))
        (by-elements (p + q) _ (pos 0) (row y) row-long (λ j c. row_at j c ∙ sym (λ i. beside_at (column-of (p + q) c y i) (row_of (p + q) c y i)))))
        (omega arith))

  pub joined-all : {y : ℕ} {out : List ℤ} → Joined ((p + q) * y) out → h ≤ y → y ≤ h → out ≡ beside (pos 0) p q h left right
  unfolding beside grid
  joined-all {y} {out} s a b =
      let e : y ≡ h = omega arith in
      all _ ((p + q) * h) ((p + q) * h) out (same _ ((p + q) * h) ((p + q) * y) ((p + q) * h) out s (ap (λ (k : ℕ). (p + q) * k) e)) (omega arith) (omega arith)

-- ---- where no test fails

-- what the tests of the strips say
pub record Strips (left : List ℤ) (wl hl : ℕ) (ql : List ℕ) (right : List ℤ) (wr hr : ℕ) (qr : List ℕ) : Type 0 where
  pub wl-most : wl ≤ 4096
  pub hl-most : hl ≤ 4096
  pub wr-most : wr ≤ 4096
  pub left-long : length left ≡ 64 * (blocks wl * blocks hl)
  pub right-long : length right ≡ 64 * (blocks wr * blocks hr)
  pub ql-long : length ql ≡ 64
  pub qr-long : length qr ≡ 64

pub strips : (left : List ℤ) (wl hl : ℕ) (ql : List ℕ) (right : List ℤ) (wr hr : ℕ) (qr : List ℕ) → status (strip_tests left wl hl ql right wr hr qr) ≡ 0 → Strips left wl hl ql right wr hr qr
unfolding strip_tests
strips left wl hl ql right wr hr qr e =
    let all = passed-all (strip_tests left wl hl ql right wr hr qr) tt e in
    let rest = all.1.1.1.1 in
    record {
      wl-most = (measured-range wl all.0).1;
      hl-most = (measured-range hl all.1.0).1;
      wr-most = (measured-range wr all.1.1.0).1;
      left-long = eqb-true _ _ rest.0;
      right-long = eqb-true _ _ rest.1.0;
      ql-long = eqb-true _ _ rest.1.1.0;
      qr-long = eqb-true _ _ rest.1.1.1.0;
    }

half-thousand : (n : ℕ) → n ≤ 4096 → blocks n ≤ 512
unfolding blocks
half-thousand n h = omega arith

pub joinable : {left right out : List ℤ} {ql qr : List ℕ} (wl hl wr hr : ℕ) → Strips left wl hl ql right wr hr qr → status (fitting_tests wl hl ql wr hr qr out) ≡ 0 → Joinable (64 * blocks wl) (64 * blocks wr) (blocks hl) left right out
unfolding fitting_tests
joinable {left} {right} {out} {ql} {qr} wl hl wr hr s e =
    let all = passed-all (fitting_tests wl hl ql wr hr qr out) tt e in
    let high : hl ≡ hr = eqb-true _ _ all.1.0 in
    let eights : wl % 8 ≡ 0 = eqb-true _ _ all.1.1.0 in
    let room : length out ≡ 64 * (blocks (wl + wr) * blocks hl) = eqb-true _ _ all.1.1.1.1.0 in
    record {
      p-blocks = omega arith;
      q-blocks = omega arith;
      p-most = omega (arith, half-thousand wl s.wl-most);
      q-most = omega (arith, half-thousand wr s.wr-most);
      h-most = half-thousand hl s.hl-most;
      left-long = s.left-long ∙ sym (mul_assoc 64 (blocks wl) (blocks hl));
      right-long = s.right-long ∙ ap (λ (h : ℕ). 64 * (blocks wr * blocks h)) (sym high) ∙ sym (mul_assoc 64 (blocks wr) (blocks hl));
      out-long = room ∙ ap (λ (n : ℕ). 64 * (n * blocks hl)) (joined-blocks wl wr eights) ∙ sym (mul_assoc 64 (blocks wl + blocks wr) (blocks hl)) ∙ ap (λ (n : ℕ). n * blocks hl) (mul-add 64 (blocks wl) (blocks wr));
    }

-- the status by that of the strips and, where they pass, by what follows
pub join-status : (left : List ℤ) (wl hl : ℕ) (ql : List ℕ) (right : List ℤ) (wr hr : ℕ) (qr : List ℕ) (out : List ℤ) {s r : ℕ} →
    s ≡ status (strip_tests left wl hl ql right wr hr qr) → r ≡ written s (status (fitting_tests wl hl ql wr hr qr out)) s → r ≡ status (join_tests left wl hl ql right wr hr qr out)
unfolding strip_tests
join-status left wl hl ql right wr hr qr out e f = after (strip_tests left wl hl ql right wr hr qr) (fitting_tests wl hl ql wr hr qr out) tt e f

-- so of every join that is not refused, at each scale: "Decoding the joined plane shows the left picture beside the right one, sample by
-- sample, and the clamp counts add up"
pub accepted-shows : (left : List ℤ) (wl hl : ℕ) (ql : List ℕ) (right : List ℤ) (wr hr : ℕ) (qr : List ℕ) (out : List ℤ) → status (join_tests left wl hl ql right wr hr qr out) ≡ 0 →
    let shows : Scale → Type 0 = λ s. ShowsBoth s (joined wl wr hl left right) left wl hl ql right wr qr in
    (hl ≡ hr) × (shows full × (shows half × shows quarter))
unfolding strip_tests fitting_tests
accepted-shows left wl hl ql right wr hr qr out e =
    let all = passed-all (join_tests left wl hl ql right wr hr qr out) tt e in
    let rest = all.1.1.1.1.1.1.1.1 in
    let same : T (same_divisors ql qr) = rw rest.0 tt in
    let at = joined-shows ql qr same wl wr hl (eqb-true _ _ rest.1.1.0) left right in
    (eqb-true _ _ rest.1.0, (at full cropping-full, (at half cropping-half, at quarter cropping-quarter)))
