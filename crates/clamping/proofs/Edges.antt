-- Values at the edges, computed: the sum of an 8-bit sample wraps, that of a 12-bit sample does not.
-- Assumes nothing.
use mathlib.Core.Path.{◌≡◌, refl}
use Prim.Native.Nat.{◌-◌, ◌^◌}
use lib.IntN.{pos, negsuc}
use Rattle.integers.specs.Wrap.{wrap, modulo}
use Rattle.clamping.specs.Clamping.{clamp_to, sample_u8, sample12bit}
use Rattle.clamping.specs.Rule.{rule_to, rule_u8}
use Rattle.clamping.specs.declared.Rule.TheVariants.{Raised, Lowered, Within}

u8-last : sample_u8 (pos 2147483519) ≡ 255
unfolding sample_u8 clamp_to wrap modulo
u8-last = refl

u8-wrapped : sample_u8 (pos 2147483520) ≡ 0
unfolding sample_u8 clamp_to wrap modulo
u8-wrapped = refl

-- "A wrapped sum is judged after the wrap"; exactly 0 and exactly 255 are within
rule-last : rule_u8 (pos 2147483519) ≡ Lowered
unfolding rule_u8 rule_to wrap modulo
rule-last = refl

rule-wrapped : rule_u8 (pos 2147483520) ≡ Raised
unfolding rule_u8 rule_to wrap modulo
rule-wrapped = refl

rule-0 : rule_u8 (negsuc 127) ≡ Within
unfolding rule_u8 rule_to wrap modulo
rule-0 = refl

rule-255 : rule_u8 (pos 127) ≡ Within
unfolding rule_u8 rule_to wrap modulo
rule-255 = refl

rule-256 : rule_u8 (pos 128) ≡ Lowered
unfolding rule_u8 rule_to wrap modulo
rule-256 = refl

twelve-greatest : sample12bit (pos (2 ^ 63 - 1)) ≡ 4095
unfolding sample12bit clamp_to
twelve-greatest = refl

twelve-least : sample12bit (negsuc (2 ^ 63 - 1)) ≡ 0
unfolding sample12bit clamp_to
twelve-least = refl
