-- Congruence modulo m, and that `modulo m` picks the one number of 0 .. m - 1 in each class.
-- Assumes nothing.
use mathlib.Core.Path.{◌≡◌, refl, sym, ap, ◌∙◌}
use Prim.Native.Nat.{ℕ, zero, suc, ◌-◌, ◌/◌, ◌%◌, ◌<◌}
use native.Mathlib.Nat.{mod-lt, div-add-mod'}
use native.Mathlib.Omega.{arith}
use lib.IntN.{ℤ, pos, negsuc, neg_ℤ, ◌+ℤ◌, ◌-ℤ◌, ◌*ℤ◌}
use Rattle.integers.specs.Wrap.{modulo}
use Rattle.integers.proofs.Difference.{dif, dif-eq, dif-inj, negsuc-dif, by-dif, differences}
use Rattle.integers.proofs.Ring.{ring}

-- x is y and a multiple of m
pub record Congruent (m : ℕ) (x y : ℤ) : Type 0 where
  pub multiple : ℤ
  pub is : x ≡ y +ℤ multiple *ℤ pos m

module _ {m : ℕ} where
  pub equal : {x y : ℤ} → x ≡ y → Congruent m x y
  equal {x} {y} e = record { multiple = pos 0; is = e ∙ go y }
    where
      go : (y : ℤ) → y ≡ y +ℤ pos 0 *ℤ pos m
      go = by-dif _ λ a b. simp differences (dif-eq _ _ _ _ (omega arith))

  pub itself : (x : ℤ) → Congruent m x x
  itself x = equal refl

  pub inverse : {x y : ℤ} → Congruent m x y → Congruent m y x
  inverse {x} {y} c = record { multiple = neg_ℤ c.multiple; is = go c.multiple y ∙ ap (λ (t : ℤ). t +ℤ neg_ℤ c.multiple *ℤ pos m) (sym c.is) }
    where
      go : (t y : ℤ) → y ≡ (y +ℤ t *ℤ pos m) +ℤ neg_ℤ t *ℤ pos m
      go = by-dif _ λ a b. by-dif _ λ c d. simp differences (dif-eq _ _ _ _ (omega arith))

  pub plus : {x y x' y' : ℤ} → Congruent m x y → Congruent m x' y' → Congruent m (x +ℤ x') (y +ℤ y')
  plus {y} {y'} c d = record { multiple = c.multiple +ℤ d.multiple; is = (λ i. c.is i +ℤ d.is i) ∙ simp ring }

  pub minus : {x y x' y' : ℤ} → Congruent m x y → Congruent m x' y' → Congruent m (x -ℤ x') (y -ℤ y')
  minus c d = record { multiple = c.multiple -ℤ d.multiple; is = (λ i. c.is i -ℤ d.is i) ∙ simp ring }

  pub times : {x y x' y' : ℤ} → Congruent m x y → Congruent m x' y' → Congruent m (x *ℤ x') (y *ℤ y')
  times {y = y} {y' = y'} c d =
      record { multiple = c.multiple *ℤ y' +ℤ (y +ℤ c.multiple *ℤ pos m) *ℤ d.multiple; is = (λ i. c.is i *ℤ d.is i) ∙ simp ring }

  pub then : {x y z : ℤ} → Congruent m x y → Congruent m y z → Congruent m x z
  then c d = record { multiple = d.multiple +ℤ c.multiple; is = c.is ∙ ap (λ (t : ℤ). t +ℤ c.multiple *ℤ pos m) d.is ∙ simp ring }

  -- a remainder is congruent to what is divided
  pub remainder : (n : ℕ) → Congruent m (pos (n % m)) (pos n)
  remainder n = inverse (record { multiple = pos (n / m); is = ap pos (let e = div-add-mod' n m in omega arith) })

unique : (m r s : ℕ) (t : ℤ) → r < m → s < m → pos r ≡ pos s +ℤ t *ℤ pos m → r ≡ s
unique m r s (pos zero) h k e = let i = dif-inj _ _ _ _ (simp differences at e) in omega arith
unique m r s (pos (suc n)) h k e = absurd (let i = dif-inj _ _ _ _ (simp differences at e) in omega arith)
unique m r s (negsuc n) h k e = absurd (let i = dif-inj _ _ _ _ (simp differences at e) in omega arith)

module _ {m : ℕ} (h : 0 < m) where
  pub modulo-lt : (z : ℤ) → modulo m z < m
  unfolding modulo
  modulo-lt (pos a) = mod-lt a h
  modulo-lt (negsuc a) = omega arith

  pub modulo-congruent : (z : ℤ) → Congruent m (pos (modulo m z)) z
  unfolding modulo
  modulo-congruent (pos a) = remainder a
  modulo-congruent (negsuc a) =
      let d = div-add-mod' a m in
      let l : a % m < m = mod-lt a h in
      let k : ℤ = pos (suc (a / m)) *ℤ pos m in
      let e : pos (m - suc (a % m)) ≡ dif 0 (suc a) +ℤ k = simp differences (dif-eq _ _ _ _ (omega arith)) in
      record { multiple = pos (suc (a / m)); is = e ∙ ap (λ (z : ℤ). z +ℤ k) (sym (negsuc-dif a)) }

  -- the only such number
  pub modulo-unique : {r : ℕ} {z : ℤ} → r < m → Congruent m (pos r) z → r ≡ modulo m z
  modulo-unique {r} {z} l c =
      let d = then c (inverse (modulo-congruent z)) in
      unique m r (modulo m z) d.multiple l (modulo-lt z) d.is

  pub modulo-cong : {x y : ℤ} → Congruent m x y → modulo m x ≡ modulo m y
  modulo-cong {x} {y} c = modulo-unique (modulo-lt x) (then (modulo-congruent x) c)
