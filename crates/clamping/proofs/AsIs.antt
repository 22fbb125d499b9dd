-- Sums that are samples as they are: the clamp changes nothing, and nothing is counted. One test for several of them, of their bits together.
-- Assumes nothing.
use mathlib.Core.Path.{◌≡◌, sym, ap, ◌∙◌, subst}
use mathlib.Core.Bool.{Bool, true, false, cond}
use Prim.Native.Nat.{ℕ, suc, ◌-◌, ◌^◌, ◌≤◌}
use native.Mathlib.Omega.{arith}
use borrow.Author.Tests.{le-leb}
use lib.Bits.{bit_or}
use lib.Dec.{T, leb, ltb, leb→le}
use lib.IntN.{ℤ, pos, negsuc, nat_abs, ◌+ℤ◌}
use lib.Signed.{non_neg}
use mir.Facts.{and_yes}
use mir.Syntax.{w32}
use mir.Val.{SFits, to_z, of_z, sel}
use Rattle.integers.specs.Wrap.{wrap}
use Rattle.integers.proofs.Wrap.{wrap-fits}
use Rattle.integers.proofs.ZeroTest.{or_most}
use Rattle.clamping.specs.Clamping.{clamp_to, sample_u8}
use Rattle.clamping.specs.Rule.{rule_to, rule_u8, is_sample}
use Rattle.clamping.specs.Counts.{tally_one}
use Rattle.clamping.specs.declared.Rule.TheVariants.{Within, Lowered}

-- s is the sum of v, and a sample
pub record AsIs (v s : ℤ) : Type 0 where
  pub least : T (non_neg s)
  pub most : nat_abs s ≤ 255
  pub sample : nat_abs s ≡ sample_u8 v
  pub tally : 0 ≡ tally_one (rule_u8 v)

-- where its bits say so
module _ (v : ℤ) where
  by_bits : (s : ℤ) → s ≡ wrap w32 (v +ℤ pos 128) → of_z w32 s ≤ 255 → SFits w32 s → AsIs v s
  unfolding sample_u8 rule_u8 clamp_to rule_to
  by_bits (pos n) e h f =
      record {
        least = tt;
        most = h;
        sample = omega arith ∙ ap (clamp_to 255) e;
        tally = ap (λ (t : Bool). tally_one (cond t Within Lowered)) (sym (le-leb n 255 h)) ∙ ap (λ (z : ℤ). tally_one (rule_to 255 z)) e;
      }
  by_bits (negsuc n) e h f = let b = f.sfits in absurd (omega arith)

  pub as_is : {s : ℤ} → s ≡ wrap w32 (v +ℤ pos 128) → of_z w32 s ≤ 255 → AsIs v s
  as_is {s} e h = by_bits s e h (subst (SFits w32) (sym e) (wrap-fits w32 (v +ℤ pos 128)))

-- the test of the bits of four sums together
bits_most : (b : ℕ) → T (is_sample (to_z w32 b)) → b ≤ 255
bits_most b t = go (ltb b (2 ^ 31)) t
  where
    go : (l : Bool) → T (is_sample (sel l (pos b) (negsuc (2 ^ 32 - suc b)))) → b ≤ 255
    go true t = leb→le b 255 (and_yes (leb 0 b) (leb b 255) t).1
    go false t = absurd t

pub four-bits : (a b c d : ℕ) {t : Bool} → t ≡ is_sample (to_z w32 (bit_or a (bit_or b (bit_or c d)))) → t ≡ true → (a ≤ 255) × ((b ≤ 255) × ((c ≤ 255) × (d ≤ 255)))
four-bits a b c d e h =
    let all = or_most a (bit_or b (bit_or c d)) 255 (bits_most _ (subst T (sym h ∙ e) tt)) in
    let rest = or_most b (bit_or c d) 255 all.1 in
    (all.0, (rest.0, or_most c d 255 rest.1))
