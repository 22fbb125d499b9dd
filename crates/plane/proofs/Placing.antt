-- A block written to a picture row by row, and a picture written block by block.
-- Assumes nothing.
use mathlib.Core.Path.{◌≡◌, refl, sym, ap, ◌∙◌}
use mathlib.Core.List.{List}
use Prim.Native.Nat.{ℕ, ◌+◌, ◌-◌, ◌*◌, ◌/◌, ◌%◌, ◌≤◌, ◌<◌, min}
use native.Mathlib.Nat.{mul-le-mul, mul-le-mul_left, div-add-mod, mod-lt}
use native.Mathlib.Decide.{dec_lt}
use native.Mathlib.Omega.{arith}
use lib.ListN.{length, get_or, drop, length-drop}
use lib.Seq.{paste, get_or-drop}
use Rattle.lists.specs.Grid.{grid, at, tiled}
use Rattle.lists.proofs.Tab.{by-elements}
use Rattle.lists.proofs.Grid.{index, column-of, row_of, placed, run_long, run_in, run_out}
use Rattle.plane.specs.Placing.{Begins, Placed}

-- ---- a block, row by row

module _ (m w h x y : ℕ) (b : List ℕ) where
  -- the first n rows of the block are written
  pub record Rows (n : ℕ) (old new : List ℕ) : Type 0 where
    pub long : length new ≡ w * h
    pub inside : (i j : ℕ) → i < w → j < h → i / m ≡ x → j / m ≡ y → j % m < n → at 0 w new i j ≡ at 0 m b (i % m) (j % m)
    pub kept : (i j : ℕ) → i < w → j < h → (i / m ≡ x → j / m ≡ y → j % m < n → ⊥) → at 0 w new i j ≡ at 0 w old i j

  pub rows_none : (old : List ℕ) → length old ≡ w * h → Rows 0 old old
  rows_none old e = record { long = e; inside = λ i j a c p q r. absurd (omega arith); kept = λ i j a c f. refl }

  -- where a place of the block lies
  place : (k z : ℕ) → k / m ≡ z → k ≡ m * z + k % m
  place k z e = sym (div-add-mod k m) ∙ ap (λ (t : ℕ). m * t + k % m) e

  -- row n of the block, as far as it lies in the picture, c samples
  pub rows_more : 0 < m → {n c : ℕ} {old mid new : List ℕ} → Rows n old mid → n < m → c ≡ min m (w - m * x) → m * x < w → m * y + n < h → m * n + c ≤ length b →
      new ≡ paste mid (w * (m * y + n) + m * x) (drop (m * n) b) c → Rows (n + 1) old new
  rows_more some {n} {c} {old} {mid} {new} s l e p q v f =
      record {
        long = ap (λ (t : List ℕ). length t) f ∙ run_long 0 w h mid vs (m * x) (m * y + n) c s.long (omega arith) q room;
        inside = λ i j a g ex ey u. ap (λ (t : List ℕ). at 0 w t i j) f ∙ row i j a g ex ey u (dec_lt (j % m) n);
        kept = λ i j a g no. ap (λ (t : List ℕ). at 0 w t i j) f
            ∙ run_out 0 w h mid vs (m * x) (m * y + n) c s.long (omega arith) q room {i = i} {j = j} a (λ k low high. no (column i low high) (ap (λ (t : ℕ). t / m) k ∙ row_of m l y) (omega (arith, ap (λ (t : ℕ). t % m) k ∙ column-of m l y)))
            ∙ s.kept i j a g (λ ex ey u. no ex ey (omega arith));
      }
    where
      vs : List ℕ
      vs = drop (m * n) b

      room : c ≤ length (drop (m * n) b)
      room = omega (arith, length-drop (m * n) b)

      column : (i : ℕ) → m * x ≤ i → i < m * x + c → i / m ≡ x
      column i low high = let t : i ≡ m * x + (i - m * x) = omega arith in ap (λ (k : ℕ). k / m) t ∙ row_of m (omega arith) x

      row : (i j : ℕ) → i < w → j < h → i / m ≡ x → j / m ≡ y → j % m < n + 1 → Dec (j % m < n) → at 0 w (paste mid (w * (m * y + n) + m * x) (drop (m * n) b) c) i j ≡ at 0 m b (i % m) (j % m)
      row i j a g ex ey u (yes t) =
          run_out 0 w h mid (drop (m * n) b) (m * x) (m * y + n) c s.long (omega arith) q room {i = i} {j = j} a (λ k low high. omega (arith, place j y ey)) ∙ s.inside i j a g ex ey t
      row i j a g ex ey u (no t) =
          let jn : j % m ≡ n = omega arith in
          let ji : j ≡ m * y + n = place j y ey ∙ ap (λ (k : ℕ). m * y + k) jn in
          let in-run : i % m < c = omega (arith, place i x ex, mod-lt i some) in
          (λ o. at 0 w (paste mid (w * (m * y + n) + m * x) (drop (m * n) b) c) (place i x ex o) (ji o))
          ∙ run_in 0 w h mid (drop (m * n) b) (m * x) (m * y + n) c s.long (omega arith) q room in-run ∙ get_or-drop (m * n) b (i % m) 0 ∙ ap (at 0 m b (i % m)) (sym jn)

  pub rows_all : 0 < m → {n : ℕ} {old new : List ℕ} → Rows n old new → min m (h - m * y) ≤ n → Placed m w h x y b old new
  rows_all some {n} s l =
      record {
        long = s.long;
        inside = λ i j a c p q. s.inside i j a c p q (omega (arith, place j y q, mod-lt j some));
        kept = λ i j a c f. s.kept i j a c (λ p q r. f p q);
      }

-- of the same block
pub placed_same : {m w h x y : ℕ} {b c old new : List ℕ} → b ≡ c → Placed m w h x y b old new → Placed m w h x y c old new
placed_same e p = rw (← e) p

-- the numbers of row j of a block, c samples of it: where it is read, and where it is written
pub record RowRoom (m w h x y j c : ℕ) (b out : List ℕ) : Type 0 where
  pub turn : j < m
  pub small : j < 8
  pub read : m * j + c ≤ length b
  pub few : length b ≤ 64
  pub down : m * y + j < h
  pub wide : m * x + c ≤ w
  pub write : w * (m * y + j) + m * x + c ≤ length out
  pub most : length out ≤ 4096 * 4096

pub row_room : {m w h x y j c r : ℕ} {b old : List ℕ} (out : List ℕ) → Begins m w h x y old → length b ≡ m * m → length out ≡ w * h → j < r → r ≡ min m (h - m * y) → c ≡ min m (w - m * x) → RowRoom m w h x y j c b out
row_room {m} {w} {h} {x} {y} {j} {c} {r} {b} out f lb o l er ec =
    let jm : j < m = omega arith in
    let down : m * y + j < h = omega arith in
    let wide : m * x + c ≤ w = omega (arith, f.left) in
    record {
      turn = jm;
      small = omega (arith, f.m-most);
      read = omega (arith, lb, mul-le-mul_left m jm);
      few = omega (arith, lb, mul-le-mul f.m-most f.m-most);
      down = down;
      wide = wide;
      write = omega (arith, o, mul-le-mul_left w down);
      most = omega (arith, o, mul-le-mul f.w-most f.h-most);
    }

-- ---- a picture, block by block, a blocks in a row

module _ (m a w h : ℕ) (B : ℕ → List ℕ) where
  -- the first k blocks are written
  pub record Blocks (k : ℕ) (out : List ℕ) : Type 0 where
    pub long : length out ≡ w * h
    pub front : (i j : ℕ) → i < w → j < h → a * (j / m) + i / m < k → at 0 w out i j ≡ tiled 0 m a B i j

  pub blocks-none : (out : List ℕ) → length out ≡ w * h → Blocks 0 out
  blocks-none out e = record { long = e; front = λ i j p q r. absurd (omega arith) }

  pub blocks_more : ((i : ℕ) → i < w → i / m < a) → {x y : ℕ} {b old new : List ℕ} → x < a → Blocks (a * y + x) old → Placed m w h x y b old new → b ≡ B (a * y + x) → Blocks (a * y + x + 1) new
  unfolding tiled
  blocks_more wide {x} {y} {b} {old} {new} l s p e = record { long = p.long; front = λ i j g f u. block i j g f u (dec_lt (a * (j / m) + i / m) (a * y + x)) }
    where
      block : (i j : ℕ) → i < w → j < h → a * (j / m) + i / m < a * y + x + 1 → Dec (a * (j / m) + i / m < a * y + x) → at 0 w new i j ≡ at 0 m (B (a * (j / m) + i / m)) (i % m) (j % m)
      block i j g f u (yes t) = p.kept i j g f (λ ex ey. let o : a * (j / m) + i / m ≡ a * y + x = λ z. a * ey z + ex z in omega (arith, o)) ∙ s.front i j g f t
      block i j g f u (no t) =
          let o : a * (j / m) + i / m ≡ a * y + x = omega arith in
          let ex = sym (column-of a (wide i g) (j / m)) ∙ ap (λ (z : ℕ). z % a) o ∙ column-of a l y in
          let ey = sym (row_of a (wide i g) (j / m)) ∙ ap (λ (z : ℕ). z / a) o ∙ row_of a l y in
          p.inside i j g f ex ey ∙ ap (λ (l : List ℕ). at 0 m l (i % m) (j % m)) (e ∙ ap B (sym o))

  -- the same count, said in another way
  pub blocks-same : {k k' : ℕ} {out : List ℕ} → Blocks k out → k ≡ k' → Blocks k' out
  blocks-same s e = rw (← e) s

  pub blocks-all : ((i : ℕ) → i < w → i / m < a) → {n k : ℕ} {out : List ℕ} → Blocks k out → ((j : ℕ) → j < h → j / m < n) → a * n ≤ k → out ≡ grid w h (tiled 0 m a B)
  unfolding grid
  blocks-all wide {n} {k} {out} s high l =
      by-elements (w * h) (λ i. tiled 0 m a B (i % w) (i / w)) 0 out s.long (λ i c.
      let t = placed w h i c in
      ap (λ (z : ℕ). get_or out z 0) (sym t.1.1) ∙ s.front (i % w) (i / w) t.0 t.1.0 (omega (arith, index a (wide (i % w) t.0) (high (i / w) t.1.0))))
