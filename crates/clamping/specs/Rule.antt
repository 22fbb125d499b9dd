-- Document 02, card 4: "The 8-bit clamp now reports with its sample which rule gave it: raised to 0, lowered to 255, or within."
use Rattle.std.specs.Prelude.{Bool, cond, ◌&&◌, ℕ, leb, ℤ, pos, negsuc, ◌+ℤ◌}
use Rattle.std.specs.Int.Signed.{le_z}
use Rattle.std.specs.Int.{w32}
use Rattle.integers.specs.Wrap.{wrap}
use Rattle.clamping.specs.Clamping.{sample_u8}
use Rattle.clamping.specs.declared.Rule.{Rule}
use Rattle.clamping.specs.declared.Rule.TheVariants.{Raised, Lowered, Within}
use Rattle.clamping.specs.declared.Sample.{Sample}

-- which rule takes z to 0..top; 0 and top themselves are within
unfoldable pub rule_to : ℕ → ℤ → Rule
rule_to top (pos n) = cond (leb n top) Within Lowered
rule_to top (negsuc n) = Raised

-- "A wrapped sum is judged after the wrap": the sum is that of `sample_u8`
unfoldable pub rule_u8 : ℤ → Rule
rule_u8 v = rule_to 255 (wrap w32 (v +ℤ pos 128))

-- what `sample_u8` answers
unfoldable pub sampled_u8 : ℤ → Sample
sampled_u8 v = record { sample = sample_u8 v; rule = rule_u8 v }

-- a sum that no rule changes: within 0..255
abbrev pub is_sample : ℤ → Bool
is_sample sum = le_z (pos 0) sum && le_z sum (pos 255)
