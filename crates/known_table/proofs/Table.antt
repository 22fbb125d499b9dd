-- Document 01's starred cases, computed on the definitions. Assumes nothing.
use mathlib.Core.Path.{◌≡◌, refl, ap, ◌∙◌}
use mathlib.Core.List.{List, map}
use Prim.Native.Nat.{ℕ}
use lib.ListN.{get_or, replicate, get_or-replicate}
use lib.IntN.{ℤ, pos, ◌-ℤ◌, ◌*ℤ◌}
use Rattle.lists.specs.Tab.{tab}
use Rattle.lists.proofs.Tab.{tab-ext}
use Rattle.forward.proofs.Equal.{basis_sums, equal-sum}
use Rattle.quantize.specs.Quantize.{divisor_of, rounded, with_sign, coefficient}
use Rattle.forward.specs.Canonical.{canonical_at, coefficients_at, coefficients}
use Rattle.integers.specs.Wrap.{modulo, wrap}
use Rattle.integers.specs.Linear.{dot, transform, zero_at}
use Rattle.gains.specs.Gains.{mirror, mirrored, upper, gains}
use Rattle.scaling.specs.Scaling.{descaled}
use Rattle.clamping.specs.Clamping.{clamp_to, sample_u8, sample12bit}
use Rattle.passes.specs.Passes.{eight, pass, column_pass, row_pass}
use Rattle.block.specs.Block.{column_of, columns, row_of, row_at, row_samples, samples, block, block12bit}
use Rattle.known_table.specs.Table.{Case, forward, inverse, inverse12bit, table, flat, given, expected, Holds}

-- the coefficients of 64 equal samples and quantizers, by the sums of the basis
unfoldable pub equal : ℕ → ℕ → List ℤ
equal sample quantizer = tab 64 (λ n. coefficient ((pos sample -ℤ pos 128) *ℤ get_or basis_sums n (pos 0)) (get_or (replicate 64 quantizer) n 0))

pub equal-coefficients : (sample quantizer : ℕ) → coefficients (replicate 64 sample) (replicate 64 quantizer) ≡ equal sample quantizer
unfolding equal coefficients_at canonical_at
equal-coefficients sample quantizer = tab-ext 64 _ _ (λ n h. ap (λ (S : ℤ). coefficient S (get_or (replicate 64 quantizer) n 0)) (equal-sum 128 sample n h (replicate 64 sample) (λ i b. get_or-replicate 64 i sample 0 b)))

-- what a case gives, said so
computed : Case → List ℤ
computed (forward sample quantizer dc) = equal sample quantizer
computed (inverse dc sample) = given (inverse dc sample)
computed (inverse12bit dc sample) = given (inverse12bit dc sample)

given-computed : (c : Case) → given c ≡ computed c
unfolding given computed
given-computed (forward sample quantizer dc) = equal-coefficients sample quantizer
given-computed (inverse dc sample) = refl
given-computed (inverse12bit dc sample) = refl

cases : map computed table ≡ map expected table
unfolding computed equal table given expected flat tab coefficient divisor_of rounded with_sign block block12bit samples row_samples row_at columns column_of column_pass row_pass pass eight transform zero_at wrap modulo dot descaled clamp_to sample_u8 sample12bit gains upper mirrored mirror
cases = refl

pub known-blocks : Holds table
unfolding Holds
known-blocks = (λ i. map (λ c. given-computed c i) table) ∙ cases
