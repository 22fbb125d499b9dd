-- A sample less the centre, at 16 bits, over the centre; and the samples of both widths.
-- Assumes nothing.
use mathlib.Core.Path.{◌≡◌, sym, ap, ap₂, subst, ◌∙◌}
use mathlib.Core.Bool.{true}
use mathlib.Core.List.{List}
use Prim.Native.Nat.{ℕ, ◌*◌, ◌^◌, ◌<◌, ◌≤◌}
use native.Mathlib.Omega.{arith}
use lib.ListN.{get_or}
use lib.IntN.{ℤ, pos, ◌-ℤ◌}
use mir.Syntax.{w8, w16}
use mir.Val.{Fits, SFits, to_z, of_z}
use mir.ValLaws.{to_z-of_z, to_z_pos}
use Rattle.integers.proofs.Difference.{distance}
use Rattle.integers.proofs.Bound.{small-fits}
use Rattle.forward.specs.Canonical.{up_to}
use Rattle.forward.specs.Forward.{centred_block}
use Rattle.forward.proofs.Samples.{within, centred-small}
use Rattle.fdct_block.specs.Ready.{Centred}
use Rattle.fdct.specs.Level.{Level}

pub cast_fits : (n : ℕ) → n < 2 ^ 15 → SFits w16 (pos n)
cast_fits n h = record { sfits = omega arith }

module _ (centre n : ℕ) (c : centre ≤ 2 ^ 11) (h : n ≤ 2 * centre) where
  read : to_z w16 n -ℤ to_z w16 centre ≡ pos n -ℤ pos centre
  read = ap₂ ◌-ℤ◌ (to_z_pos w16 n (omega arith)) (to_z_pos w16 centre (omega arith))

  pub centred-fits : SFits w16 (to_z w16 n -ℤ to_z w16 centre)
  centred-fits = rw read (small-fits w16 (pos n -ℤ pos centre) (omega (arith, distance n centre)))

  pub centred-value : to_z w16 (of_z w16 (to_z w16 n -ℤ to_z w16 centre)) ≡ pos n -ℤ pos centre
  centred-value = to_z-of_z w16 _ centred-fits ∙ read

-- of 8 and of 12 bits
pub widened-level : {block wider : List ℕ} → wider ≡ block → ((i : ℕ) → get_or block i 0 ≤ 255) → Level wider 128
widened-level e h = subst (λ (l : List ℕ). Level l 128) (sym e) (record { low = omega arith; most = λ i b. omega (arith, h i) })

-- what the entries of 8-bit samples shift
pub shifted : {block wider : List ℕ} {samples : List ℤ} → wider ≡ block → samples ≡ centred_block 128 wider → samples ≡ centred_block 128 block
shifted e s = s ∙ ap (centred_block 128) e

pub shifted-small : {block wider : List ℕ} {samples : List ℤ} → wider ≡ block → ((i : ℕ) → Fits w8 (get_or block i 0)) → samples ≡ centred_block 128 wider → Centred samples
shifted-small {block} e h s = subst Centred (sym (shifted e s)) (λ i. omega (arith, centred-small 255 128 (omega arith) block (λ j b. omega (arith, (h j).fits)) i))

pub level-12bit : (block : List ℕ) → up_to 4095 block ≡ true → Level block 2048
level-12bit block t = record { low = omega arith; most = λ i b. omega (arith, within 4095 block t i b) }
