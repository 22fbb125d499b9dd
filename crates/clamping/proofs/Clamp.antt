-- Laws of `clamp_to` and `centered`, at any bound, by the tests of the code.
-- Assumes nothing.
use mathlib.Core.Path.{◌≡◌, refl, ap, ◌∙◌}
use mathlib.Core.Bool.{Bool, true, false}
use Prim.Native.Nat.{ℕ, suc, ◌+◌, ◌-◌, ◌^◌, ◌≤◌, ◌<◌, min}
use native.Mathlib.Omega.{arith}
use borrow.Author.Tests.{ltb-true, ltb-false, le-ltb}
use lib.Dec.{T, ltb}
use lib.IntN.{ℤ, pos, negsuc, ◌+ℤ◌}
use lib.Signed.{lt_z, non_neg, mag}
use mir.Syntax.{Width}
use mir.Val.{SFits, hbits, to_z, of_z}
use mir.ValLaws.{to_z-of_z, sfits_le}
use Rattle.std.specs.Int.{int_max, int_min}
use Rattle.std.proofs.lemmas.Int.{ints, clamps}
use Rattle.clamping.specs.Clamping.{clamp_to, centered}

module _ (top : ℕ) where
  pub clamp-le : (z : ℤ) → clamp_to top z ≤ top
  unfolding clamp_to
  clamp-le (pos n) = omega arith
  clamp-le (negsuc n) = omega arith

  pub clamp-below : (z : ℤ) → lt_z z (pos 0) ≡ true → 0 ≡ clamp_to top z
  unfolding clamp_to
  clamp-below (pos n) h = omega (arith, ltb-true n 0 h)
  clamp-below (negsuc n) h = refl

  pub clamp-above : (z : ℤ) → lt_z (pos top) z ≡ true → top ≡ clamp_to top z
  unfolding clamp_to
  clamp-above (pos n) h = omega (arith, ltb-true top n h)
  clamp-above (negsuc n) h = let e : ◌≡◌ {A = ℕ} 0 1 = cc in omega arith

  -- where nothing is clamped, and where the greater side was clamped already
  pub clamp-none : (z : ℤ) → T (non_neg z) → mag z ≤ top → z ≡ pos (clamp_to top z)
  unfolding clamp_to
  clamp-none (pos n) p h = ap pos (omega arith)
  clamp-none (negsuc n) p h = absurd p

  pub clamp-twice : (more : ℕ) → top ≤ more → (z : ℤ) → clamp_to top (pos (clamp_to more z)) ≡ clamp_to top z
  unfolding clamp_to
  clamp-twice more h (pos n) = omega arith
  clamp-twice more h (negsuc n) = omega arith

module _ (half : ℕ) where
  pub centered-below : (z : ℤ) → lt_z z (negsuc (half - 1)) ≡ true → negsuc (half - 1) ≡ centered half z
  unfolding centered
  centered-below (pos n) h = let e : ◌≡◌ {A = ℕ} 0 1 = cc in absurd (omega arith)
  centered-below (negsuc n) h = ap negsuc (omega (arith, ltb-true (half - 1) n h))

  pub centered-above : (z : ℤ) → lt_z (pos (half - 1)) z ≡ true → pos (half - 1) ≡ centered half z
  unfolding centered
  centered-above (pos n) h = ap pos (omega (arith, ltb-true (half - 1) n h))
  centered-above (negsuc n) h = let e : ◌≡◌ {A = ℕ} 0 1 = cc in absurd (omega arith)

  pub centered-within : (z : ℤ) → lt_z z (negsuc (half - 1)) ≡ false → lt_z (pos (half - 1)) z ≡ false → z ≡ centered half z
  unfolding centered
  centered-within (pos n) g h = ap pos (omega (arith, ltb-false (half - 1) n h))
  centered-within (negsuc n) g h = ap negsuc (omega (arith, ltb-false (half - 1) n g))

  pub centered-fits : {w : Width} (z : ℤ) → SFits w z → SFits w (centered half z)
  unfolding centered
  centered-fits (pos n) f = sfits_le {z = pos n} (omega arith) f
  centered-fits (negsuc n) f = sfits_le {z = negsuc n} (omega arith) f

  -- clamped and then moved up by half is moved up and then clamped
  pub centered-up : 0 < half → (z : ℤ) → centered half z +ℤ pos half ≡ pos (clamp_to (half + half - 1) (z +ℤ pos half))
  unfolding centered clamp_to
  centered-up p (pos n) = ap pos (omega arith)
  centered-up p (negsuc n) = go (ltb half (suc n)) refl
    where
      go : (t : Bool) → ltb half (suc n) ≡ t → negsuc (min n (half - 1)) +ℤ pos half ≡ pos (clamp_to (half + half - 1) (negsuc n +ℤ pos half))
      go true t = rw (le-ltb half (suc (min n (half - 1))) (omega arith), t) (ap pos (omega (arith, ltb-true half (suc n) t)))
      go false t = rw (le-ltb half (suc (min n (half - 1))) (omega arith), t) (ap pos (omega arith))

-- ---- as the code has them: x is z, read back from its bits

module _ (top : ℕ) {x z : ℤ} (e : x ≡ z) where
  pub clamp-low : lt_z x (pos 0) ≡ true → 0 ≡ clamp_to top z
  clamp-low h = clamp-below top z (rw e at h)

  pub clamp-high : lt_z (pos top) x ≡ true → top ≡ clamp_to top z
  clamp-high h = clamp-above top z (rw e at h)

-- one side of the clamp: of a number that fits, the lower; of one that is not negative, the upper
pub not-below : (z : ℤ) → lt_z z (pos 0) ≡ false → T (non_neg z)
not-below (pos n) h = tt
not-below (negsuc n) h = let e : ◌≡◌ {A = ℕ} 0 1 = cc in absurd (omega arith)

pub not-above : (top : ℕ) (z : ℤ) → T (non_neg z) → lt_z (pos top) z ≡ false → mag z ≤ top
not-above top (pos n) p h = ltb-false top n h
not-above top (negsuc n) p h = absurd p

module _ (half : ℕ) {x z : ℤ} (e : x ≡ z) where
  pub centered-low : lt_z x (negsuc (half - 1)) ≡ true → negsuc (half - 1) ≡ centered half z
  centered-low h = centered-below half z (rw e at h)

  pub centered-high : lt_z (pos (half - 1)) x ≡ true → pos (half - 1) ≡ centered half z
  centered-high h = centered-above half z (rw e at h)

  pub centered-kept : lt_z x (negsuc (half - 1)) ≡ false → lt_z (pos (half - 1)) x ≡ false → x ≡ centered half z
  centered-kept g h = rw e (centered-within half z (rw e at g) (rw e at h))

-- ---- as std's `clamp` has them

pub clamp-is : (top : ℕ) (z : ℤ) → int_max (pos 0) (int_min z (pos top)) ≡ pos (clamp_to top z)
unfolding clamp_to
clamp-is top (pos n) = omega (arith, ints, clamps)
clamp-is top (negsuc n) = omega (arith, ints, clamps)

pub centered-is : (half : ℕ) (z : ℤ) → 0 < half → int_max (negsuc (half - 1)) (int_min z (pos (half - 1))) ≡ centered half z
unfolding centered
centered-is half (pos n) h = omega (arith, ints, clamps)
centered-is half (negsuc n) h = omega (arith, ints, clamps)

-- held to the greater side before half is added, and to 0 after it
pub held-is : (z : ℤ) → int_max (int_min z (pos 127) +ℤ pos 128) (pos 0) ≡ pos (clamp_to 255 (z +ℤ pos 128))
held-is z = sides z ∙ clamp-is 255 (z +ℤ pos 128)
  where
    sides : (z : ℤ) → int_max (int_min z (pos 127) +ℤ pos 128) (pos 0) ≡ int_max (pos 0) (int_min (z +ℤ pos 128) (pos 255))
    sides z = omega (arith, ints, clamps)

-- what a call with a parameter z gave
pub clamp-read : (w : Width) (top : ℕ) {x z r : ℤ} → top < 2 ^ hbits w → x ≡ z → r ≡ int_max (pos 0) (int_min x (pos top)) → to_z w (of_z w r) ≡ pos (clamp_to top z)
clamp-read w top {z = z} h ex e = rw (e, ex, clamp-is top z) (to_z-of_z w _ (record { sfits = omega (arith, clamp-le top z) }))

pub centered-read : (w : Width) (half : ℕ) {z r : ℤ} → SFits w z → 0 < half → r ≡ int_max (negsuc (half - 1)) (int_min (to_z w (of_z w z)) (pos (half - 1))) → to_z w (of_z w r) ≡ centered half z
centered-read w half {z} f p e = rw (e, to_z-of_z w z f, centered-is half z p) (to_z-of_z w _ (centered-fits half z f))
