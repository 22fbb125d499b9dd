-- The test of the whole numbers from one to another and the predicate are one, both ways.
-- Assumes nothing.
use mathlib.Core.Path.{◌≡◌, refl, sym, subst}
use mathlib.Core.Bool.{Bool, true, false, cond, ◌||◌}
use Prim.Native.Nat.{ℕ, zero, suc, ◌+◌, ◌-◌, ◌≤◌, ◌<◌}
use native.Mathlib.Decide.{dec_lt}
use native.Mathlib.Omega.{arith}
use lib.Dec.{T}
use lib.IntN.{ℤ, pos, nat_abs, ◌+ℤ◌, ◌-ℤ◌}
use lib.Ieee.Bits.{is_true}
use lib.Signed.{le_z, ◌≤ℤ◌}
use Rattle.integers.specs.Range.{Some, some_of, some_from}
use Rattle.integers.proofs.Difference.{dif, dif-eq, by-dif, differences}
use Rattle.integers.proofs.Order.{dif-le, le-dif}

-- f holds at a + j
record Offset (k : ℕ) (a : ℤ) (f : ℤ → Bool) : Type 0 where
  offset : ℕ
  below : offset < k
  there : T (f (a +ℤ pos offset))

offset-yes : (k : ℕ) (a : ℤ) (f : ℤ → Bool) → T (some_of k a f) → Offset k a f
unfolding some_of
offset-yes zero a f t = absurd t
offset-yes (suc k) a f t = go (f (a +ℤ pos k)) refl t (offset-yes k a f)
  where
    go : (s : Bool) → f (a +ℤ pos k) ≡ s → T (s || some_of k a f) → (T (some_of k a f) → Offset k a f) → Offset (suc k) a f
    go true e t more = record { offset = k; below = omega arith; there = subst T (sym e) tt }
    go false e t more = let o = more t in let b = o.below in record { offset = o.offset; below = omega arith; there = o.there }

offset-all : (k : ℕ) (a : ℤ) (f : ℤ → Bool) (j : ℕ) → j < k → T (f (a +ℤ pos j)) → T (some_of k a f)
unfolding some_of
offset-all zero a f j h t = absurd (omega arith)
offset-all (suc k) a f j h t = go (dec_lt j k) (λ l. offset-all k a f j l t)
  where
    right : (s t : Bool) → T t → T (s || t)
    right true t p = tt
    right false t p = p

    left : (s t : Bool) → T s → T (s || t)
    left true t p = tt
    left false t p = elim p [ ]

    go : Dec (j < k) → (j < k → T (some_of k a f)) → T (f (a +ℤ pos k) || some_of k a f)
    go (yes l) more = right (f (a +ℤ pos k)) (some_of k a f) (more l)
    go (no l) more = let e : j ≡ k = omega arith in left (f (a +ℤ pos k)) (some_of k a f) (subst (λ (i : ℕ). T (f (a +ℤ pos i))) e t)

-- the numbers from a to b are a + j for j up to b - a
reached : (a b : ℤ) (j : ℕ) → a ≤ℤ b → j ≤ nat_abs (b -ℤ a) → (a ≤ℤ (a +ℤ pos j)) × ((a +ℤ pos j) ≤ℤ b)
reached =
    by-dif _ λ p q. by-dif _ λ r s. λ j h l.
    let h' = le-dif p q r s h in
    let e : nat_abs (dif r s -ℤ dif p q) ≡ ((r + q) - (s + p)) + ((s + p) - (r + q)) = simp differences (omega arith) in
    simp differences (dif-le _ _ _ _ (omega arith), dif-le _ _ _ _ (omega arith))

placed : (a S b : ℤ) → a ≤ℤ S → S ≤ℤ b → (a +ℤ pos (nat_abs (S -ℤ a)) ≡ S) × (nat_abs (S -ℤ a) < suc (nat_abs (b -ℤ a))) × (a ≤ℤ b)
placed =
    by-dif _ λ p q. by-dif _ λ r s. by-dif _ λ t u. λ h l.
    let h' = le-dif p q r s h in
    let l' = le-dif r s t u l in
    simp differences (dif-eq _ _ _ _ (omega arith), omega arith, dif-le _ _ _ _ (omega arith))

module _ (a b : ℤ) (f : ℤ → Bool) where
  pub some-yes : T (some_from a b f) → Some a b (λ S. T (f S))
  unfolding some_from some_of
  some-yes t = go (le_z a b) refl t
    where
      go : (s : Bool) → le_z a b ≡ s → T (some_of (cond s (suc (nat_abs (b -ℤ a))) 0) a f) → Some a b (λ S. T (f S))
      go true e t =
          let o = offset-yes (suc (nat_abs (b -ℤ a))) a f t in
          let l = o.below in
          let within = reached a b o.offset (record { le = subst T (sym e) tt }) (omega arith) in
          record { number = a +ℤ pos o.offset; from = within.0; to = within.1; has = o.there }
      go false e t = absurd t

  pub some-all : Some a b (λ S. T (f S)) → T (some_from a b f)
  unfolding some_from
  some-all s =
      let p = placed a s.number b s.from s.to in
      subst (λ (t : Bool). T (some_of (cond t (suc (nat_abs (b -ℤ a))) 0) a f)) (sym (is_true (le_z a b) p.2.le))
      (offset-all _ a f (nat_abs (s.number -ℤ a)) p.1 (subst (λ (S : ℤ). T (f S)) (sym p.0) s.has))
