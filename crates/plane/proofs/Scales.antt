-- The three scales: how a cropped picture and its blocks lie, which coefficients a block has, and how many samples.
-- Assumes nothing.
use mathlib.Core.Path.{◌≡◌}
use mathlib.Core.List.{List}
use Prim.Native.Nat.{ℕ, ◌+◌, ◌*◌, ◌/◌, ◌≤◌, ◌<◌}
use native.Mathlib.Omega.{arith}
use lib.ListN.{length}
use lib.IntN.{ℤ, pos, negsuc}
use Rattle.integers.specs.Fits16.{Fits16}
use Rattle.lists.proofs.Tab.{length-tab, by-elements}
use Rattle.lists.proofs.Parts.{lent, length-lent, lent_at}
use Rattle.clamping.specs.Clamping.{centered}
use Rattle.passes.specs.Passes.{eight, four, two}
use Rattle.block.specs.Block.{row_samples, samples, block}
use Rattle.plane.specs.Plane.{blocks}
use Rattle.plane.specs.Scale.{Scale, clamped16, full, half, quarter, cropped, stored_block, block_samples, scale_of}
use Rattle.plane.specs.declared.decode.Scale.{Scale as CallScale}
use Rattle.plane.specs.declared.decode.Scale.TheVariants.{Full, Half, Quarter}

-- what the laws ask of a scale: a sample of the cropped picture lies in a block, and each block begins within that picture; and that the
-- picture's measures are "rounded up"
pub record Cropping (s : Scale) : Type 0 where
  pub side-some : 1 ≤ s.size.side
  pub side-most : s.size.side ≤ 8
  pub inside : (n x : ℕ) → x < cropped s n → x / s.size.side < blocks n
  pub begins : (n x : ℕ) → x < blocks n → s.size.side * x < cropped s n
  pub fewer : (n : ℕ) → cropped s n ≤ n
  pub covers : (n : ℕ) → n ≤ s.by * cropped s n
  pub tight : (n : ℕ) → s.by * cropped s n < n + s.by
  -- whole blocks, and then n columns or rows
  pub whole : (a : ℕ) → cropped s (8 * a) ≡ s.size.side * a
  pub wide : (a n : ℕ) → cropped s (8 * a + n) ≡ s.size.side * a + cropped s n

pub cropping-full : Cropping full
unfolding cropped blocks eight
cropping-full =
    record {
      side-some = omega arith;
      side-most = omega arith;
      inside = λ n x h. omega arith;
      begins = λ n x h. omega arith;
      fewer = λ n. omega arith;
      covers = λ n. omega arith;
      tight = λ n. omega arith;
      whole = λ a. omega arith;
      wide = λ a n. omega arith;
    }

pub cropping-half : Cropping half
unfolding cropped blocks four
cropping-half =
    record {
      side-some = omega arith;
      side-most = omega arith;
      inside = λ n x h. omega arith;
      begins = λ n x h. omega arith;
      fewer = λ n. omega arith;
      covers = λ n. omega arith;
      tight = λ n. omega arith;
      whole = λ a. omega arith;
      wide = λ a n. omega arith;
    }

pub cropping-quarter : Cropping quarter
unfolding cropped blocks two
cropping-quarter =
    record {
      side-some = omega arith;
      side-most = omega arith;
      inside = λ n x h. omega arith;
      begins = λ n x h. omega arith;
      fewer = λ n. omega arith;
      covers = λ n. omega arith;
      tight = λ n. omega arith;
      whole = λ a. omega arith;
      wide = λ a n. omega arith;
    }

pub cropping : (k : CallScale) → Cropping (scale_of k)
cropping Full = cropping-full
cropping Half = cropping-half
cropping Quarter = cropping-quarter

-- at full size the picture is the plane
pub cropped-full : (n : ℕ) → cropped full n ≡ n
unfolding cropped
cropped-full n = omega arith

pub clamped-fits : (z : ℤ) → Fits16 (clamped16 z)
unfolding clamped16 centered
clamped-fits (pos n) = record { sfits = omega arith }
clamped-fits (negsuc n) = record { sfits = omega arith }

-- the part of the coefficients that is lent is the block's
pub lent-stored : (cs : List ℤ) (k : ℕ) → 64 * k + 64 ≤ length cs → lent (64 * k) 64 cs ≡ stored_block cs k
unfolding stored_block
lent-stored cs k b = by-elements 64 _ (pos 0) (lent (64 * k) 64 cs) (length-lent (64 * k) 64 cs b) (λ n l. lent_at (64 * k) 64 cs (pos 0) l)

pub length-samples : (s : Scale) (quant : List ℕ) (cs : List ℤ) → length (block_samples s quant cs) ≡ s.size.side * s.size.side
unfolding block_samples block samples row_samples
length-samples s quant cs = length-tab (s.size.side * s.size.side) _
