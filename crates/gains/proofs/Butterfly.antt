-- The butterflies' steps, in the Rust's order, make up the rows of gains: at any width, one law for each size.
-- An operation is as a contract of the crate `wrapping` states it; each value is carried with its linear form of p, and the forms of the
-- outputs are the rows by computation. The inputs are any numbers that are the entries of p modulo 2^w.
-- Assumes nothing.
use mathlib.Core.Path.{◌≡◌}
use mathlib.Core.List.{List, [], ◌∷◌}
use Prim.Native.Nat.{ℕ}
use lib.IntN.{ℤ, pos, ◌+ℤ◌, ◌-ℤ◌, ◌*ℤ◌}
use mir.Syntax.{Width}
use Rattle.integers.specs.Linear.{transform}
use Rattle.integers.specs.Wrap.{wrap}
use Rattle.integers.proofs.Linear.{Lin, unit, lin-add, lin-sub, lin-mul, lin-sum, lin-difference}
use Rattle.gains.specs.Gains.{neg, mirror, mirrored, upper, gains, upper4, gains4, upper2, gains2}

module _ (w : Width) (p : List ℤ) where
  abbrev add : ℤ → ℤ → ℤ
  add x y = wrap w (x +ℤ y)

  abbrev sub : ℤ → ℤ → ℤ
  sub x y = wrap w (x -ℤ y)

  abbrev mul : ℤ → ℤ → ℤ
  mul x k = wrap w (x *ℤ k)

  -- x is the k-th entry of p
  abbrev Entry : ℕ → ℤ → Type 0
  Entry k = Lin w p (unit k)

  -- the 8-point transform
  pub eight-point :
      {p0 p1 p2 p3 p4 p5 p6 p7 z1' z1 tmp2' tmp2 tmp3' tmp3 tmp0' tmp0 tmp1' tmp1 tmp10 tmp13 tmp11 tmp12 y1 y2 y3 y4 z5' z5 u0 u1 u2 u3 x1 x2 x3' x3 x4' x4 t0' t0 t1' t1 t2' t2 t3' t3 r0 r1 r2 r3 r4 r5 r6 r7 : ℤ}
      → Entry 0 p0 → Entry 1 p1 → Entry 2 p2 → Entry 3 p3 → Entry 4 p4 → Entry 5 p5 → Entry 6 p6 → Entry 7 p7
      → z1' ≡ add p2 p6 → z1 ≡ mul z1' (pos 4433)
      → tmp2' ≡ mul p6 (neg 15137) → tmp2 ≡ add z1 tmp2'
      → tmp3' ≡ mul p2 (pos 6270) → tmp3 ≡ add z1 tmp3'
      → tmp0' ≡ add p0 p4 → tmp0 ≡ mul tmp0' (pos 8192)
      → tmp1' ≡ sub p0 p4 → tmp1 ≡ mul tmp1' (pos 8192)
      → tmp10 ≡ add tmp0 tmp3
      → tmp13 ≡ sub tmp0 tmp3
      → tmp11 ≡ add tmp1 tmp2
      → tmp12 ≡ sub tmp1 tmp2
      → y1 ≡ add p7 p1
      → y2 ≡ add p5 p3
      → y3 ≡ add p7 p3
      → y4 ≡ add p5 p1
      → z5' ≡ add y3 y4 → z5 ≡ mul z5' (pos 9633)
      → u0 ≡ mul p7 (pos 2446)
      → u1 ≡ mul p5 (pos 16819)
      → u2 ≡ mul p3 (pos 25172)
      → u3 ≡ mul p1 (pos 12299)
      → x1 ≡ mul y1 (neg 7373)
      → x2 ≡ mul y2 (neg 20995)
      → x3' ≡ mul y3 (neg 16069) → x3 ≡ add x3' z5
      → x4' ≡ mul y4 (neg 3196) → x4 ≡ add x4' z5
      → t0' ≡ add u0 x1 → t0 ≡ add t0' x3
      → t1' ≡ add u1 x2 → t1 ≡ add t1' x4
      → t2' ≡ add u2 x2 → t2 ≡ add t2' x3
      → t3' ≡ add u3 x1 → t3 ≡ add t3' x4
      → r0 ≡ add tmp10 t3
      → r1 ≡ add tmp11 t2
      → r2 ≡ add tmp12 t1
      → r3 ≡ add tmp13 t0
      → r4 ≡ sub tmp13 t0
      → r5 ≡ sub tmp12 t1
      → r6 ≡ sub tmp11 t2
      → r7 ≡ sub tmp10 t3
      → r0 ∷ r1 ∷ r2 ∷ r3 ∷ r4 ∷ r5 ∷ r6 ∷ r7 ∷ [] ≡ transform w gains p
  unfolding transform mirror mirrored upper gains
  eight-point p0 p1 p2 p3 p4 p5 p6 p7 e1 e2 e3 e4 e5 e6 e7 e8 e9 e10 e11 e12 e13 e14 e15 e16 e17 e18 e19 e20 e21 e22 e23 e24 e25 e26 e27 e28 e29 e30 e31 e32 e33 e34 e35 e36 e37 e38 e39 e40 e41 e42 e43 e44 e45 e46 =
      let z1 = lin-mul (pos 4433) (lin-add p2 p6 e1) e2 in
      let tmp2 = lin-add z1 (lin-mul (neg 15137) p6 e3) e4 in
      let tmp3 = lin-add z1 (lin-mul (pos 6270) p2 e5) e6 in
      let tmp0 = lin-mul (pos 8192) (lin-add p0 p4 e7) e8 in
      let tmp1 = lin-mul (pos 8192) (lin-sub p0 p4 e9) e10 in
      let tmp10 = lin-add tmp0 tmp3 e11 in
      let tmp13 = lin-sub tmp0 tmp3 e12 in
      let tmp11 = lin-add tmp1 tmp2 e13 in
      let tmp12 = lin-sub tmp1 tmp2 e14 in
      let y1 = lin-add p7 p1 e15 in
      let y2 = lin-add p5 p3 e16 in
      let y3 = lin-add p7 p3 e17 in
      let y4 = lin-add p5 p1 e18 in
      let z5 = lin-mul (pos 9633) (lin-add y3 y4 e19) e20 in
      let u0 = lin-mul (pos 2446) p7 e21 in
      let u1 = lin-mul (pos 16819) p5 e22 in
      let u2 = lin-mul (pos 25172) p3 e23 in
      let u3 = lin-mul (pos 12299) p1 e24 in
      let x1 = lin-mul (neg 7373) y1 e25 in
      let x2 = lin-mul (neg 20995) y2 e26 in
      let x3 = lin-add (lin-mul (neg 16069) y3 e27) z5 e28 in
      let x4 = lin-add (lin-mul (neg 3196) y4 e29) z5 e30 in
      let t0 = lin-add (lin-add u0 x1 e31) x3 e32 in
      let t1 = lin-add (lin-add u1 x2 e33) x4 e34 in
      let t2 = lin-add (lin-add u2 x2 e35) x3 e36 in
      let t3 = lin-add (lin-add u3 x1 e37) x4 e38 in
      let r0 = lin-sum tmp10 t3 e39 in
      let r1 = lin-sum tmp11 t2 e40 in
      let r2 = lin-sum tmp12 t1 e41 in
      let r3 = lin-sum tmp13 t0 e42 in
      let r4 = lin-difference tmp13 t0 e43 in
      let r5 = lin-difference tmp12 t1 e44 in
      let r6 = lin-difference tmp11 t2 e45 in
      let r7 = lin-difference tmp10 t3 e46 in
      λ i. r0 i ∷ r1 i ∷ r2 i ∷ r3 i ∷ r4 i ∷ r5 i ∷ r6 i ∷ r7 i ∷ []

  -- the 4-point reduced transform
  pub four-point :
      {p0 p1 p2 p3 p5 p6 p7 tmp0 tmp2' tmp2'' tmp2 tmp10 tmp12 b' b'' b''' b'''' b''''' b'''''' b a' a'' a''' a'''' a''''' a'''''' a r0 r1 r2 r3 : ℤ}
      → Entry 0 p0 → Entry 1 p1 → Entry 2 p2 → Entry 3 p3 → Entry 5 p5 → Entry 6 p6 → Entry 7 p7
      → tmp0 ≡ mul p0 (pos 16384)
      → tmp2' ≡ mul p2 (pos 15137) → tmp2'' ≡ mul p6 (neg 6270) → tmp2 ≡ add tmp2' tmp2''
      → tmp10 ≡ add tmp0 tmp2
      → tmp12 ≡ sub tmp0 tmp2
      → b' ≡ mul p7 (neg 1730) → b'' ≡ mul p5 (pos 11893) → b''' ≡ add b' b'' → b'''' ≡ mul p3 (neg 17799) → b''''' ≡ add b''' b'''' → b'''''' ≡ mul p1 (pos 8697) → b ≡ add b''''' b''''''
      → a' ≡ mul p7 (neg 4176) → a'' ≡ mul p5 (neg 4926) → a''' ≡ add a' a'' → a'''' ≡ mul p3 (pos 7373) → a''''' ≡ add a''' a'''' → a'''''' ≡ mul p1 (pos 20995) → a ≡ add a''''' a''''''
      → r0 ≡ add tmp10 a
      → r1 ≡ add tmp12 b
      → r2 ≡ sub tmp12 b
      → r3 ≡ sub tmp10 a
      → r0 ∷ r1 ∷ r2 ∷ r3 ∷ [] ≡ transform w gains4 p
  unfolding transform mirror mirrored upper4 gains4
  four-point p0 p1 p2 p3 p5 p6 p7 e1 e2 e3 e4 e5 e6 e7 e8 e9 e10 e11 e12 e13 e14 e15 e16 e17 e18 e19 e20 e21 e22 e23 e24 =
      let tmp0 = lin-mul (pos 16384) p0 e1 in
      let tmp2 = lin-add (lin-mul (pos 15137) p2 e2) (lin-mul (neg 6270) p6 e3) e4 in
      let tmp10 = lin-add tmp0 tmp2 e5 in
      let tmp12 = lin-sub tmp0 tmp2 e6 in
      let b = lin-add (lin-add (lin-add (lin-mul (neg 1730) p7 e7) (lin-mul (pos 11893) p5 e8) e9) (lin-mul (neg 17799) p3 e10) e11) (lin-mul (pos 8697) p1 e12) e13 in
      let a = lin-add (lin-add (lin-add (lin-mul (neg 4176) p7 e14) (lin-mul (neg 4926) p5 e15) e16) (lin-mul (pos 7373) p3 e17) e18) (lin-mul (pos 20995) p1 e19) e20 in
      let r0 = lin-sum tmp10 a e21 in
      let r1 = lin-sum tmp12 b e22 in
      let r2 = lin-difference tmp12 b e23 in
      let r3 = lin-difference tmp10 a e24 in
      λ i. r0 i ∷ r1 i ∷ r2 i ∷ r3 i ∷ []

  -- the 2-point reduced transform
  pub two-point :
      {p0 p1 p3 p5 p7 tmp10 tmp0' tmp0'' tmp0''' tmp0'''' tmp0''''' tmp0'''''' tmp0 r0 r1 : ℤ}
      → Entry 0 p0 → Entry 1 p1 → Entry 3 p3 → Entry 5 p5 → Entry 7 p7
      → tmp10 ≡ mul p0 (pos 32768)
      → tmp0' ≡ mul p7 (neg 5906) → tmp0'' ≡ mul p5 (pos 6967) → tmp0''' ≡ add tmp0' tmp0'' → tmp0'''' ≡ mul p3 (neg 10426) → tmp0''''' ≡ add tmp0''' tmp0'''' → tmp0'''''' ≡ mul p1 (pos 29692) → tmp0 ≡ add tmp0''''' tmp0''''''
      → r0 ≡ add tmp10 tmp0
      → r1 ≡ sub tmp10 tmp0
      → r0 ∷ r1 ∷ [] ≡ transform w gains2 p
  unfolding transform mirror mirrored upper2 gains2
  two-point p0 p1 p3 p5 p7 e1 e2 e3 e4 e5 e6 e7 e8 e9 e10 =
      let tmp10 = lin-mul (pos 32768) p0 e1 in
      let tmp0 = lin-add (lin-add (lin-add (lin-mul (neg 5906) p7 e2) (lin-mul (pos 6967) p5 e3) e4) (lin-mul (neg 10426) p3 e5) e6) (lin-mul (pos 29692) p1 e7) e8 in
      let r0 = lin-sum tmp10 tmp0 e9 in
      let r1 = lin-difference tmp10 tmp0 e10 in
      λ i. r0 i ∷ r1 i ∷ []
