-- The rule and the sample of one clamp, and the two counts by the tests of the code.
-- Assumes nothing.
use mathlib.Core.Path.{◌≡◌, refl, sym, ap, ◌∙◌}
use mathlib.Core.Bool.{Bool, true, false, cond}
use Prim.Native.Nat.{ℕ, suc, ◌+◌, ◌-◌, ◌*◌, ◌≤◌, zero-le, min}
use native.Mathlib.Omega.{arith}
use borrow.Author.Tests.{ltb-true, ltb-false, lt-ltb, le-ltb, leb-true, leb-false}
use lib.Dec.{ltb, leb}
use lib.IntN.{ℤ, pos, negsuc, nat_abs, ◌+ℤ◌}
use lib.Signed.{lt_z}
use mir.Syntax.{w32}
use Rattle.std.specs.Int.{from_bool}
use Rattle.integers.specs.Fits16.{Fits16}
use Rattle.integers.specs.Wrap.{wrap}
use Rattle.integers.proofs.Fits16.{fits16-abs}
use Rattle.integers.proofs.Ring.{nat_abs-+}
use Rattle.integers.proofs.Bound.{small-fits}
use Rattle.integers.proofs.Wrap.{wrap-id}
use Rattle.clamping.specs.Clamping.{clamp_to, sample_u8}
use Rattle.clamping.specs.Rule.{rule_to, rule_u8}
use Rattle.clamping.specs.Counts.{raised_one, lowered_one, tally_one}
use Rattle.clamping.specs.declared.Rule.{Rule}
use Rattle.clamping.specs.declared.Rule.TheVariants.{Raised, Lowered, Within}

-- the sample that a rule gives: 0, the top, or the sum itself
abbrev pub by_rule : Rule → ℕ → ℤ → ℕ
by_rule Raised top z = 0
by_rule Lowered top z = top
by_rule Within top z = nat_abs z

rule-sample : (top : ℕ) (z : ℤ) → clamp_to top z ≡ by_rule (rule_to top z) top z
unfolding clamp_to rule_to
rule-sample top (negsuc n) = refl
rule-sample top (pos n) = go (leb n top) refl
  where
    go : (t : Bool) → leb n top ≡ t → min n top ≡ by_rule (cond t Within Lowered) top (pos n)
    go true e = let l = leb-true n top e in omega arith
    go false e = let l = leb-false n top e in omega arith

-- the rule that `sample_u8` reports is the one that gave its sample
pub sample-by-rule : (v : ℤ) → sample_u8 v ≡ by_rule (rule_u8 v) 255 (wrap w32 (v +ℤ pos 128))
unfolding sample_u8 rule_u8
sample-by-rule v = rule-sample 255 (wrap w32 (v +ℤ pos 128))

-- ---- by the tests of the code

module _ (top : ℕ) where
  pub rule-raised : (z : ℤ) → lt_z z (pos 0) ≡ true → Raised ≡ rule_to top z
  unfolding rule_to
  rule-raised (pos n) h = absurd (omega (arith, ltb-true n 0 h))
  rule-raised (negsuc n) h = refl

  pub rule-lowered : (z : ℤ) → lt_z (pos top) z ≡ true → Lowered ≡ rule_to top z
  unfolding rule_to
  rule-lowered (pos n) h = go (leb n top) refl
    where
      go : (t : Bool) → leb n top ≡ t → Lowered ≡ cond t Within Lowered
      go true e = absurd (omega (arith, leb-true n top e, ltb-true top n h))
      go false e = refl
  rule-lowered (negsuc n) h = let e : ◌≡◌ {A = ℕ} 0 1 = cc in absurd (omega arith)

  pub rule-within : (z : ℤ) → lt_z z (pos 0) ≡ false → lt_z (pos top) z ≡ false → Within ≡ rule_to top z
  unfolding rule_to
  rule-within (pos n) g h = go (leb n top) refl
    where
      go : (t : Bool) → leb n top ≡ t → Within ≡ cond t Within Lowered
      go true e = refl
      go false e = absurd (omega (arith, leb-false n top e, ltb-false top n h))
  rule-within (negsuc n) g h = let e : ◌≡◌ {A = ℕ} 0 1 = cc in absurd (omega arith)

  -- what the rule adds to each count
  pub raised_is : (z : ℤ) → from_bool (lt_z z (pos 0)) ≡ raised_one (rule_to top z)
  raised_is z = go (lt_z z (pos 0)) (lt_z (pos top) z) refl refl
    where
      go : (s t : Bool) → lt_z z (pos 0) ≡ s → lt_z (pos top) z ≡ t → from_bool s ≡ raised_one (rule_to top z)
      go true t g h = ap raised_one (rule-raised z g)
      go false true g h = ap raised_one (rule-lowered z h)
      go false false g h = ap raised_one (rule-within z g h)

  pub lowered_is : (z : ℤ) → from_bool (lt_z (pos top) z) ≡ lowered_one (rule_to top z)
  lowered_is z = go (lt_z z (pos 0)) (lt_z (pos top) z) refl refl
    where
      go : (s t : Bool) → lt_z z (pos 0) ≡ s → lt_z (pos top) z ≡ t → from_bool t ≡ lowered_one (rule_to top z)
      go s true g h = ap lowered_one (rule-lowered z h)
      go true false g h = ap lowered_one (rule-raised z g)
      go false false g h = ap lowered_one (rule-within z g h)

-- both counts, by the tests of a sum
pub tally_is : (top : ℕ) (z : ℤ) → from_bool (lt_z z (pos 0)) + 256 * from_bool (lt_z (pos top) z) ≡ tally_one (rule_to top z)
tally_is top z i = raised_is top z i + 256 * lowered_is top z i

-- ---- a 16-bit number: its sum with 128 does not wrap, and is judged before 128 is added

pub sum-16 : (v : ℤ) → Fits16 v → wrap w32 (v +ℤ pos 128) ≡ v +ℤ pos 128
sum-16 v f = wrap-id w32 _ (small-fits w32 _ (omega (arith, nat_abs-+ v (pos 128), fits16-abs v f)))

pub below-128 : (v : ℤ) → lt_z v (negsuc 127) ≡ lt_z (v +ℤ pos 128) (pos 0)
below-128 (pos n) = sym (le-ltb (n + 128) 0 zero-le)
below-128 (negsuc n) = go (ltb 128 (suc n)) refl
  where
    go : (t : Bool) → ltb 128 (suc n) ≡ t → ltb 127 n ≡ lt_z (negsuc n +ℤ pos 128) (pos 0)
    go true t = rw t (lt-ltb 127 n (omega (arith, ltb-true 128 (suc n) t)))
    go false t = rw t (le-ltb 127 n (omega (arith, ltb-false 128 (suc n) t)) ∙ sym (le-ltb (128 - suc n) 0 zero-le))

pub above-127 : (v : ℤ) → lt_z (pos 127) v ≡ lt_z (pos 255) (v +ℤ pos 128)
above-127 (pos n) = go (ltb 127 n) refl
  where
    go : (t : Bool) → ltb 127 n ≡ t → t ≡ ltb 255 (n + 128)
    go true t = sym (lt-ltb 255 (n + 128) (omega (arith, ltb-true 127 n t)))
    go false t = sym (le-ltb 255 (n + 128) (omega (arith, ltb-false 127 n t)))
above-127 (negsuc n) = go (ltb 128 (suc n)) refl
  where
    go : (t : Bool) → ltb 128 (suc n) ≡ t → false ≡ lt_z (pos 255) (negsuc n +ℤ pos 128)
    go true t = rw t refl
    go false t = rw t (sym (le-ltb 255 (128 - suc n) (omega arith)))

pub tally-16 : (v : ℤ) → Fits16 v → from_bool (lt_z v (negsuc 127)) + 256 * from_bool (lt_z (pos 127) v) ≡ tally_one (rule_u8 v)
unfolding rule_u8
tally-16 v f = (λ i. from_bool (below-128 v i) + 256 * from_bool (above-127 v i)) ∙ tally_is 255 (v +ℤ pos 128) ∙ ap (λ z. tally_one (rule_to 255 z)) (sym (sum-16 v f))

-- what a rule adds is at most 1
pub raised-most : (r : Rule) → raised_one r ≤ 1
raised-most Raised = omega arith
raised-most Lowered = omega arith
raised-most Within = omega arith

pub lowered-most : (r : Rule) → lowered_one r ≤ 1
lowered-most Raised = omega arith
lowered-most Lowered = omega arith
lowered-most Within = omega arith

pub tally-most : (r : Rule) → tally_one r ≤ 256
tally-most Raised = omega arith
tally-most Lowered = omega arith
tally-most Within = omega arith
